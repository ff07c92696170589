-- Each leaf's case is right.
use Rattle.cm_case.proofs.Leafs.{never, impossible, askable, leaf_keys, leaf_sayable, leaf_case}
use Rattle.cm_case.proofs.laws.cases_are_right.Goals as goal

pub returns-clause-right : goal.returns-clause-right
returns-clause-right w x es more c leaf few is picked named =
    leaf_case _ w.well_typed.ensures.well_typed _ x leaf es is more picked few c named

pub returns-clause-sayable : goal.returns-clause-sayable
returns-clause-sayable w x es more leaf is picked =
    leaf_sayable _ w.well_typed.ensures.well_typed _ x leaf es is more picked

pub returns-clause-keys : goal.returns-clause-keys
returns-clause-keys w x es leaf is some = leaf_keys _ w.well_typed.ensures.well_typed _ x leaf es is some

pub returns-clause-askable : goal.returns-clause-askable
returns-clause-askable w x es leaf is some sorts = askable _ _ x leaf es is some sorts

pub returns-clause-never : goal.returns-clause-never
returns-clause-never w x leaf is = never _ _ x leaf is

pub returns-clause-impossible : goal.returns-clause-impossible
returns-clause-impossible w x es leaf is no_one = impossible _ _ x leaf es is no_one
