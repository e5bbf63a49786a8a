-- The table of small range lists holds, by computing.
use mathlib.Core.Path.{refl}
use Rattle.rnglists.specs.Cases.{AllCases}

pub all-cases : AllCases
unfolding Rattle.tlv.specs.Outcome.◌>>=◌ Rattle.tlv.specs.Bytes.le_at Rattle.line_program.specs.Program.uleb Rattle.line_program.specs.Program.uleb_within Rattle.rnglists.specs.Standard.slots_of Rattle.rnglists.specs.RangeLists.read_operand Rattle.rnglists.specs.RangeLists.read_entry Rattle.rnglists.specs.RangeLists.address_at Rattle.rnglists.specs.RangeLists.largest Rattle.rnglists.specs.RangeLists.bounded_by Rattle.rnglists.specs.RangeLists.offset_pair Rattle.rnglists.specs.RangeLists.meaning_of Rattle.rnglists.specs.RangeLists.ranges_within Rattle.rnglists.specs.RangeLists.ranges_in Rattle.rnglists.specs.RangeLists.list_ranges
all-cases = (refl, (refl, (refl, (refl, (refl, (refl, (refl, (refl, (refl, (refl, (refl, (refl, (refl, (refl, (refl, (refl, (refl, (refl, (refl, (refl, (refl, (refl, (refl, (refl, (refl, (refl, (refl, (refl, (refl, (refl, (refl, (refl, (refl, (refl, (refl, (refl, (refl, (refl, (refl, (refl, (refl, (refl, (refl, tt)))))))))))))))))))))))))))))))))))))))))))
