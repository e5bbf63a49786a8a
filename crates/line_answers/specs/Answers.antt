-- Contract. What the program's functions tell each other of a unit's lines: that there is room for them, and that they stand in the work slice.
use Rattle.std.specs.Prelude.{Result, Ok, Err, ℕ, ◌+◌, ◌*◌, ◌≤◌, ◌<◌, ◌^◌, Bool, true, false, List}
use Rattle.tlv.specs.declared.refusal.Refusal.{Refusal}
use Rattle.tlv.specs.Limits.{joined_limit}
use Rattle.rows.specs.Sizes.{row_room}
use Rattle.rows.specs.Selects.{RowsIn}
use Rattle.collect.specs.declared.collect.CollectedLines.{CollectedLines}

-- the room for a byte of a program that gives rows: at most a row, and an offset of eight bytes in three
abbrev pub byte_room : ℕ
byte_room = row_room + 3

-- a sheet of so many bytes and n fields: the file table and the lines of a unit have room
pub record Room (main program n work : ℕ) : Type 0 where
  pub main-small : main < 2 ^ 32
  pub few : n ≤ 65536
  pub within : n * 108 + (joined_limit + 82) + program * byte_room ≤ work

abbrev pub RoomBy : ℕ → ℕ → ℕ → ℕ → Bool → Type 0
RoomBy main program n work true = Room main program n work
RoomBy main program n work false = Unit {0}

pub record HasRoom (main program n work : ℕ) (r : Bool) : Type 0 where
  pub is : RoomBy main program n work r

-- where lines were collected, they stand in w
abbrev pub RowsBy : List ℕ → Result CollectedLines Refusal → Type 0
RowsBy w (Err e) = Unit {0}
RowsBy w (Ok c) = RowsIn w c.lines

pub record CollectedRows (w : List ℕ) (r : Result CollectedLines Refusal) : Type 0 where
  pub is : RowsBy w r
