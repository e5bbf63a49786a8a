-- `function_lines::no_sequence` meets its contract.
use native.Mathlib.Omega.{arith}
use Rattle.subprograms.proofs.function_lines.SequenceLaws.{word-within, word-size, word-limit}
use Rattle.subprograms.proofs.function_lines.no_sequence.Goals as goal

pub of-requires : goal.of-requires
of-requires c = word-size c.requires.accepted c.requires.unit_in c.read.ensures

pub returns : goal.returns
returns c = word-limit c.requires.accepted c.requires.unit_in _ c.read.ensures c.of.ensures c.largest.ensures

pub overflow_add-unit : goal.overflow_add-unit
overflow_add-unit c = omega (arith, word-within c.requires.accepted c.requires.unit_in)

pub overflow_add-unit-2 : goal.overflow_add-unit-2
overflow_add-unit-2 c = omega (arith, word-within c.requires.accepted c.requires.unit_in)

pub read-requires : goal.read-requires
read-requires c = omega (arith, word-within c.requires.accepted c.requires.unit_in)
