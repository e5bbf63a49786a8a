-- Every corner case holds, by computing.
use Rattle.std.proofs.Common.{refl}
use Rattle.tlv.specs.Outcome
use Rattle.line_program.specs.Standard
use Rattle.line_program.specs.Program
use Rattle.machine.specs.Machine
use Rattle.machine.specs.Cases.{AllCases, BesideScan}

pub all-cases : AllCases
unfolding Outcome.◌>>=◌ Standard.standard_operands Standard.operands_of Program.uleb_within Program.uleb Program.sleb_within Program.sleb
    Program.skip_operand Program.skip_operands Program.take_line_bytes Machine.read_standard Machine.extended_instruction Machine.read_extended_body
    Machine.read_extended Machine.read_instruction Machine.move_to Machine.advance Machine.add_line Machine.add_special_line Machine.execute
    Machine.rows_within Machine.rest_rows Machine.unsupported Machine.program_rows
all-cases = (
  refl,
  (
    refl,
    (
      refl,
      (
        refl,
        (
          refl,
          (
            refl,
            (
              refl,
              (
                refl,
                (
                  refl,
                  (
                    refl,
                    (
                      refl,
                      (
                        refl,
                        (
                          refl,
                          (
                            refl,
                            (
                              refl,
                              (
                                refl,
                                (
                                  refl,
                                  (
                                    refl,
                                    (
                                      refl,
                                      (
                                        refl,
                                        (
                                          refl,
                                          (
                                            refl,
                                            (
                                              refl,
                                              (
                                                refl,
                                                (
                                                  refl,
                                                  (
                                                    refl,
                                                    (
                                                      refl,
                                                      (
                                                        refl,
                                                        (
                                                          refl,
                                                          (
                                                            refl,
                                                            (
                                                              refl,
                                                              (
                                                                refl,
                                                                (
                                                                  refl,
                                                                  (
                                                                    refl,
                                                                    (
                                                                      refl,
                                                                      (
                                                                        refl,
                                                                        (refl, (refl, (refl, (refl, (refl, (refl, tt)))))),
                                                                      ),
                                                                    ),
                                                                  ),
                                                                ),
                                                              ),
                                                            ),
                                                          ),
                                                        ),
                                                      ),
                                                    ),
                                                  ),
                                                ),
                                              ),
                                            ),
                                          ),
                                        ),
                                      ),
                                    ),
                                  ),
                                ),
                              ),
                            ),
                          ),
                        ),
                      ),
                    ),
                  ),
                ),
              ),
            ),
          ),
        ),
      ),
    ),
  ),
)

pub beside_scan : BesideScan
unfolding Outcome.◌>>=◌ Standard.standard_operands Standard.operands_of Program.uleb_within Program.uleb Program.sleb_within Program.sleb
    Program.skip_operand Program.skip_operands Program.take_line_bytes Machine.read_standard Machine.extended_instruction Machine.read_extended_body
    Machine.read_extended Machine.read_instruction Machine.move_to Machine.advance Machine.add_line Machine.add_special_line Machine.execute
    Machine.rows_within Machine.rest_rows Machine.unsupported Machine.program_rows Program.operand_kinds Program.extended_body Program.extended
    Program.skip Program.sequences_within Program.scan_line_sequence_offsets Program.initial_length Program.version_bytes Program.program_offset
    Program.line_sequence_offsets
beside_scan = record { odd = (refl, refl); late = (refl, refl) }
