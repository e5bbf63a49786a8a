-- `details::Details::collect_entries` meets its contract.
use Prim.Native.Nat.{◌-◌}
use lib.ListN.{length}
use Rattle.dies.specs.Details.{main_of, supplementary_of}
use Rattle.dies.proofs.details.CollectingLaws.{Collecting}
use Rattle.dies.proofs.details.Details.collect_entries.Given as goal

abbrev pub invariant-loop-field : goal.invariant-loop-field
invariant-loop-field l = Collecting (main_of l.fn.self) (supplementary_of l.fn.self) l.fn.self.context.lists.lists.now l.fn.self.context.lists.addresses.now l.fn.self.name.now l.fn.self l.p l.fn.self.depth l.initial.work l.initial.records l.initial.warnings l.initial.walk l.work l.records l.warnings l.walk l.at

abbrev pub decreases-loop-field : goal.decreases-loop-field
decreases-loop-field l = length (main_of l.fn.self) - l.at
