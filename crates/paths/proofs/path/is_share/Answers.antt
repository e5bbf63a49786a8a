-- `path::is_share` meets its contract. Each test is a part of the definition.
use Rattle.std.proofs.Common.{length, sym, ◌∙◌}
use borrow.Author.Tests.{lt-leb}
use mathlib.Core.Bool.{true≢false}
use Rattle.paths.proofs.PathCodeLaws.{share-all}
use Rattle.paths.proofs.path.is_share.Goals as goal
use Rattle.paths.proofs.path.is_share.Goals.{then-path-ge3, else-path-ge3, then-is_separator, else-is_separator, then-path, else-path}

pub returns-then-not-is_separator : goal.returns-then-not-is_separator
returns-then-not-is_separator c = elim c.if-path.branch [
  | then-path u ↦ elim c.if-is_separator.branch [
    | then-is_separator v ↦ elim c.if-path-ge3.branch [
      | then-path-ge3 w ↦ share-all _ _ w.if-path-ge3.true (sym w.is_separator.ensures ∙ sym w.value-is ∙ v.if-is_separator.true) (sym v.value-is
          ∙ u.if-path.true)
          (rw u.is_separator-then-path.ensures at (sym u.value-is ∙ c.if-not-is_separator.true)) c.any_separator.ensures
      | else-path-ge3 w ↦ absurd (true≢false (sym v.if-is_separator.true ∙ w.value-is ∙ lt-leb 3 (length c.args.path.now) w.if-path-ge3.false))
    ]
    | else-is_separator v ↦ absurd (true≢false (sym u.if-path.true ∙ v.value-is ∙ v.if-is_separator.false))
  ]
  | else-path u ↦ absurd (true≢false (sym c.if-not-is_separator.true ∙ u.value-is ∙ u.if-path.false))
]
