-- `collect::collect_lines` meets its contract: a unit without a header, and any other.
use native.Mathlib.Omega.{arith}
use Rattle.collect.proofs.HeaderPlaces.{unit-stands, header-found, header-long}
use Rattle.collect.proofs.CollectSteps.{place-within, collected-nothing}
use Rattle.collect.proofs.collect.collect_lines.Goals as goal

pub overflow_add-u : goal.overflow_add-u
overflow_add-u c = let w = place-within c.requires.placed c.requires.unit_in in omega arith

pub returns-in_default : goal.returns-in_default
returns-in_default c = collected-nothing c.requires.placed c.requires.unit_in c.requires.files_in c.requires.lines_room c.in_default.ensures c.new.ensures.based c.new.ensures.counted c.new-in_default.ensures.based c.new-in_default.ensures.counted c.new-in_default-2.ensures.based c.new-in_default-2.ensures.counted (omega arith) (omega arith) (omega arith)

pub collect_header-requires : goal.collect_header-requires
collect_header-requires c = record {
  placed = c.requires.placed;
  unit = c.requires.unit_in;
  header = header-found (unit-stands c.requires.placed c.requires.unit_in) c.in-Some.ensures c.payload.ensures;
  files = c.requires.files_in;
  room = c.requires.lines_room;
}

pub invariant_of-header : goal.invariant_of-header
invariant_of-header c = record { long = header-long (unit-stands c.requires.placed c.requires.unit_in) c.in-Some.ensures c.payload.ensures }
