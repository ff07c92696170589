-- The mask at each place.
use Rattle.fork_cases.proofs.Outcomes.{at_start, at_low, at_high, at_low_high, at_high_high}
use Rattle.fork_cases.proofs.bits.BitsNode.outcomes.Goals as goal

pub returns-in-Start : goal.returns-in-Start
returns-in-Start c = record { covers = rw c.in-Start.is (at_start c.args.self.now.wide) }

pub returns-in-Low : goal.returns-in-Low
returns-in-Low c = record { covers = rw c.in-Low.is (at_low c.args.self.now.wide) }

pub returns-in-High : goal.returns-in-High
returns-in-High c = record { covers = rw c.in-High.is (at_high c.args.self.now.wide) }

pub returns-in-LowHigh : goal.returns-in-LowHigh
returns-in-LowHigh c = record { covers = rw c.in-LowHigh.is (at_low_high c.args.self.now.wide) }

pub returns-in-HighHigh : goal.returns-in-HighHigh
returns-in-HighHigh c = record { covers = rw c.in-HighHigh.is (at_high_high c.args.self.now.wide) }
