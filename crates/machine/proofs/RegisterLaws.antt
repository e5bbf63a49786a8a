-- The registers after a move and after a line is added: one law for each way through a function.
use Rattle.std.proofs.Common.{Err, Result, ◌≡◌, ℕ, ◌+◌, ◌-◌, ◌*◌, ◌%◌, ◌^◌, ◌<◌, ◌≤◌, Bool, true, false, cond, ◌&&◌, ltb, leb, refl, ap, arith, le-ltb, lt-ltb, le-leb}
use borrow.Author.Tests.{lt-leb}
use Rattle.tlv.specs.Outcome.{refused, done}
use Rattle.tlv.specs.declared.refusal.Refusal.{Refusal}
use Rattle.tlv.specs.Refusals.{as_outcome}
use Rattle.machine.specs.declared.registers.Encoding.{Encoding}
use Rattle.machine.specs.declared.registers.Registers.{Registers}
use Rattle.machine.specs.Machine.{move_to, advance, add_line, add_special_line}
use Rattle.machine.specs.Steps.{line_encoding}

-- ---- moves

-- the registers that can't have an address
abbrev no_address : Result Registers Refusal
no_address = Err Refusal.LineAddress

module _ (r : Registers) (a : ℕ) where
  pub move_falls : a < r.address → as_outcome no_address ≡ move_to a r
  unfolding move_to
  move_falls h = rw (lt-leb r.address a h)

  pub move_past : 2 ^ 64 ≤ a → as_outcome no_address ≡ move_to a r
  unfolding move_to
  move_past h = go (leb r.address a)
    where
      to : Registers
      to = record { address = a; file = r.file; line = r.line; column = r.column }

      go : (b : Bool) → refused 22 ≡ cond (b && ltb a (2 ^ 64)) (done to) (refused 22)
      go true = rw (le-ltb a (2 ^ 64) h)
      go false = refl

  pub move_done : r.address ≤ a → a < 2 ^ 64 → done (record { address = a; file = r.file; line = r.line; column = r.column }) ≡ move_to a r
  unfolding move_to
  move_done h k = rw (le-leb r.address a h, lt-ltb a (2 ^ 64) k)

-- ---- advances: l is the length of an instruction, n how many operations

module _ (e : Encoding) (r : Registers) (n l : ℕ) (is : l ≡ e.minimum_instruction_length) where
  pub advance-past : 2 ^ 64 ≤ l * n → as_outcome no_address ≡ advance (line_encoding e) n r
  unfolding advance
  advance-past h =
      let m : l * n ≡ e.minimum_instruction_length * n = ap (λ (x : ℕ). x * n) is in
      move_past r _ (omega arith)

  pub advance-by : (m : Result Registers Refusal) → as_outcome m ≡ move_to (r.address + l * n) r → as_outcome m ≡ advance (line_encoding e) n r
  unfolding advance
  advance-by m p = rw is at p

-- ---- lines

module _ (e : Encoding) (r : Registers) (adjusted up : ℕ) (is : up ≡ e.line_base + adjusted % e.line_range) where
  pub special-up : e.line_base < 128 → record { address = r.address; file = r.file; line = (r.line + up) % 2 ^ 64; column = r.column }
      ≡ add_special_line (line_encoding e) adjusted r
  unfolding add_special_line add_line
  special-up h =
      let k : (r.line + up) % 2 ^ 64 ≡ (r.line + (e.line_base + adjusted % e.line_range) + (2 ^ 70 - 0)) % 2 ^ 64 = omega arith in
      rw (lt-leb 128 e.line_base h) (ap (λ (x : ℕ). record { address = r.address; file = r.file; line = x; column = r.column }) k)

  pub special-down : 128 ≤ e.line_base → record {
    address = r.address;
    file = r.file;
    line =
        ((r.line + up) % 2 ^ 64 + 18446744073709551360) % 2 ^ 64;
    column = r.column;
  } ≡ add_special_line (line_encoding e) adjusted r
  unfolding add_special_line add_line
  special-down h =
      let k : ((r.line + up) % 2 ^ 64 + 18446744073709551360) % 2 ^ 64
      ≡ (r.line + (e.line_base + adjusted % e.line_range) + (2 ^ 70 - 256)) % 2 ^ 64 = omega arith in
      rw (le-leb 128 e.line_base h) (ap (λ (x : ℕ). record { address = r.address; file = r.file; line = x; column = r.column }) k)
