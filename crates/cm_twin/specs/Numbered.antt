-- Names that are numbers of first appearance, as in the shape of a world.
use Rattle.std.specs.Prelude.{List, [], ◌∷◌, get_or}
use Rattle.cm_model.specs.Tables.{Tables}
use Rattle.cm_model.specs.declared.pair.Pair.{Pair}
use Rattle.cm_world.specs.declared.world.World.{World}
use Rattle.cm_world.specs.Shape.{Mark, Element, Presence, Number, appeared, place_of, seen_with, marks_of_world}
use Rattle.cm_twin.specs.Names.{Naming, Names}

-- an element has its new name, and other marks stay
abbrev pub mark_named : Naming → Mark → Mark
mark_named f (Element s n) = Element s (f s n)
mark_named f (Presence d) = Presence d
mark_named f (Number n) = Number n

-- the elements of some marks once each, behind those that were seen before
abbrev pub seen_in : List Mark → List Mark → List Mark
seen_in seen [] = seen
seen_in seen (Element s n ∷ ms) = seen_in (seen_with s n seen) ms
seen_in seen (Presence d ∷ ms) = seen_in seen ms
seen_in seen (Number n ∷ ms) = seen_in seen ms

-- each element has its number of first appearance in these marks as its name
abbrev pub numbers_of : List Mark → Names
numbers_of ms = record {
  there = λ s n. place_of n (appeared s (seen_in [] ms));
  back = λ s k. get_or (appeared s (seen_in [] ms)) k 0;
}

-- in those of a world
abbrev pub numbering : Tables → Pair → World → Names
numbering t p w = numbers_of (marks_of_world t p w)
