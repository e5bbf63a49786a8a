-- `Registers::move_to` meets its contract: the registers at an address that does not fall.
use Rattle.machine.proofs.RegisterLaws.{move_falls, move_done}
use Rattle.machine.proofs.registers.Registers.move_to.Goals as goal

pub returns : goal.returns
returns c = search move_done

pub returns-then-address-self : goal.returns-then-address-self
returns-then-address-self c = search move_falls
