-- How long the payload of a field is that the grammar passes, by its tag.
use mathlib.Core.Path.{◌≡◌}
use mathlib.Core.Bool.{true}
use mathlib.Core.List.{List}
use Prim.Native.Nat.{ℕ, ◌≤◌}
use lib.ListN.{length}
use borrow.Author.Tests.{leb-true, eqb-true}
use Rattle.tlv.specs.declared.grammar.Context.{Context}
use Rattle.tlv.specs.Grammar.{payload_shaped, unit_shaped, text_shaped, header_shaped, encoding_shaped, part_shaped, directory_shaped, file_shaped, row_shaped, entry_shaped, attribute_shaped, range_shaped, failure_shaped, list_shaped}
use Rattle.tlv.specs.Grammar.{encoding_field_size, part_field_size, row_field_size}
use Rattle.tlv.specs.Tags.{encoding_tag, part_tag}
use Rattle.tlv.proofs.TestLaws.{and_left, and_right}

module _ (c : Context) (p : List ℕ) where
  pub unit-long : payload_shaped c 0x10 p ≡ true → length p ≡ 18
  unfolding payload_shaped unit_shaped
  unit-long s = eqb-true _ _ (search and_left)

  pub text-long : payload_shaped c 0x12 p ≡ true → length p ≡ 16
  unfolding payload_shaped text_shaped
  text-long s = eqb-true _ _ s

  pub header-long : payload_shaped c 0x13 p ≡ true → 19 ≤ length p
  unfolding payload_shaped header_shaped
  header-long s = leb-true _ _ (search and_left)

  pub encoding-long : payload_shaped c encoding_tag p ≡ true → length p ≡ encoding_field_size
  unfolding payload_shaped encoding_shaped
  encoding-long s = eqb-true _ _ (search and_left)

  pub part-long : payload_shaped c part_tag p ≡ true → length p ≡ part_field_size
  unfolding payload_shaped part_shaped
  part-long s = eqb-true _ _ (search and_left)

  pub directory-long : payload_shaped c 0x14 p ≡ true → 1 ≤ length p
  unfolding payload_shaped directory_shaped
  directory-long s = leb-true _ _ (search and_left)

  pub file-long : payload_shaped c 0x15 p ≡ true → 9 ≤ length p
  unfolding payload_shaped file_shaped
  file-long s = leb-true _ _ (search and_left)

  pub file_zero-long : payload_shaped c 0x1c p ≡ true → 9 ≤ length p
  unfolding payload_shaped file_shaped
  file_zero-long s = leb-true _ _ (search and_left)

  pub row-long : payload_shaped c 0x16 p ≡ true → length p ≡ row_field_size
  unfolding payload_shaped row_shaped
  row-long s = eqb-true _ _ (search (and_left, and_right))

  pub entry-long : payload_shaped c 0x17 p ≡ true → length p ≡ 12
  unfolding payload_shaped entry_shaped
  entry-long s = eqb-true _ _ (search and_left)

  pub attribute-long : payload_shaped c 0x18 p ≡ true → 3 ≤ length p
  unfolding payload_shaped attribute_shaped
  attribute-long s = leb-true _ _ (search and_left)

  pub range-long : payload_shaped c 0x19 p ≡ true → length p ≡ 17
  unfolding payload_shaped range_shaped
  range-long s = eqb-true _ _ (search and_left)

  pub failure-long : payload_shaped c 0x1a p ≡ true → 1 ≤ length p
  unfolding payload_shaped failure_shaped
  failure-long s = leb-true _ _ (search and_left)

  pub list-long : payload_shaped c 0x1f p ≡ true → length p ≡ 25
  unfolding payload_shaped list_shaped
  list-long s = eqb-true _ _ (search and_left)

-- of the payloads in which a limit or the next context reads
pub ruleset lengths = (unit-long, entry-long, attribute-long)
