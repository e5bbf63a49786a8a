-- `operands::address_operand` meets its contract: the bytes that were passed make the value.
use Rattle.std.proofs.Common.{◌≡◌, ◌^◌, ◌<◌, length}
use Rattle.machine.proofs.AddressLaws.{highest}
use Rattle.machine.proofs.operands.address_operand.Given as goal

abbrev pub invariant-loop-byte : goal.invariant-loop-byte
invariant-loop-byte l = (l.value ≡ highest l.bytes (length l.yielded)) × (l.value < 2 ^ 64)
