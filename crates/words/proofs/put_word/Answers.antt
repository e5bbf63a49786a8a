-- `put_word` meets its contract: the row of a number holds its word, and a number past the table lays nothing.
use native.Mathlib.Omega.{arith}
use Rattle.buffers.proofs.BufferLaws.{put-nothing}
use Rattle.words.specs.Words.{words}
use Rattle.words.proofs.WordLaws.{rows, end-within, put-row, no_word}
use Rattle.words.proofs.put_word.Goals as goal

pub returns-then-refusal-gt-LAST : goal.returns-then-refusal-gt-LAST
returns-then-refusal-gt-LAST c = put-nothing (no_word _ (omega arith)) (omega arith) (omega arith)

pub slice_bounds-put_bytes-end : goal.slice_bounds-put_bytes-end
unfolding rows words
slice_bounds-put_bytes-end c = end-within c.args.refusal (omega arith)

pub returns : goal.returns
unfolding rows words
returns c = put-row c.args.refusal (omega arith) c.put_bytes.ensures
