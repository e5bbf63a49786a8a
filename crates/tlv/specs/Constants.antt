-- Definition. DWARF's own numbers (the Standard, 7.5).
use Rattle.std.specs.Prelude.{ℕ}

abbrev pub dw_tag_inlined_subroutine : ℕ
dw_tag_inlined_subroutine = 0x1d

abbrev pub dw_tag_subprogram : ℕ
dw_tag_subprogram = 0x2e

abbrev pub dw_tag_call_site : ℕ
dw_tag_call_site = 0x48

abbrev pub dw_at_name : ℕ
dw_at_name = 0x03

abbrev pub dw_at_abstract_origin : ℕ
dw_at_abstract_origin = 0x31

abbrev pub dw_at_decl_file : ℕ
dw_at_decl_file = 0x3a

abbrev pub dw_at_decl_line : ℕ
dw_at_decl_line = 0x3b

abbrev pub dw_at_specification : ℕ
dw_at_specification = 0x47

abbrev pub dw_at_call_file : ℕ
dw_at_call_file = 0x58

abbrev pub dw_at_call_line : ℕ
dw_at_call_line = 0x59

abbrev pub dw_at_linkage_name : ℕ
dw_at_linkage_name = 0x6e

abbrev pub dw_at_call_return_pc : ℕ
dw_at_call_return_pc = 0x7d

abbrev pub dw_at_call_origin : ℕ
dw_at_call_origin = 0x7f

abbrev pub dw_at_mips_linkage_name : ℕ
dw_at_mips_linkage_name = 0x2007

abbrev pub dw_at_llvm_stmt_sequence : ℕ
dw_at_llvm_stmt_sequence = 0x3e0c
