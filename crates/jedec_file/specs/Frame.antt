-- The text of a fuse file between its start and end bytes, and its sum (JESD3-C, the transmission protocol and
-- its checksum; that a sum of 0000 is passed over is the standard's rule for a sum that wasn't computed, that bytes
-- round the text are ignored is this project's reading).
use Rattle.std.specs.Prelude.{ℕ, ◌+◌, ◌-◌, ◌*◌, ◌%◌, ◌^◌, nat_le, ◌==◌, ◌&&◌, ◌||◌, if◌then◌else◌, Option, None, Some, option_and_then, List, [], ◌∷◌, take, drop, sum, position, codes, Ok, Err}
use Rattle.jedec_file.specs.declared.jedec_fault.JedecFault.TheVariants as fault
use Rattle.jedec_file.specs.FileText.{STX, ETX, byte}
use Rattle.jedec_file.specs.Refusals.{Read, ◌>>=◌, some_or}

-- the value of a hexadecimal digit in either case
abbrev pub hex_value : ℕ → Option ℕ
hex_value b =
    if nat_le (byte (codes "0")) b && nat_le b (byte (codes "9")) then Some (b - byte (codes "0"))
    else if nat_le (byte (codes "A")) b && nat_le b (byte (codes "F")) then Some (10 + b - byte (codes "A"))
    else if nat_le (byte (codes "a")) b && nat_le b (byte (codes "f")) then Some (10 + b - byte (codes "a"))
    else None

-- the value of the hexadecimal digits after those of value n
abbrev pub hex_after : ℕ → List ℕ → Option ℕ
hex_after n [] = Some n
hex_after n (b ∷ bs) = option_and_then (λ digit. hex_after (16 * n + digit) bs) (hex_value b)

-- the value of exactly four hexadecimal digits
abbrev pub four_hex_value : List ℕ → Option ℕ
four_hex_value (a ∷ b ∷ c ∷ d ∷ []) = hex_after 0 (a ∷ b ∷ c ∷ d ∷ [])
four_hex_value bs = None

-- a text between the two bytes: the place of its first byte, and its bytes
pub record Framed : Type 0 where
  pub at : ℕ
  pub text : List ℕ

-- the place of the start byte
unfoldable pub start_of : List ℕ → Read ℕ
start_of bytes = some_or fault.NoStart (position (λ b. b == STX) bytes)

-- how many bytes precede the end byte, of those after the start byte
unfoldable pub length_of : List ℕ → Read ℕ
length_of behind = some_or fault.NoEnd (position (λ b. b == ETX) behind)

-- the sum that immediately follows the end byte
unfoldable pub sum_at : List ℕ → Read ℕ
sum_at behind = some_or fault.NoEnd (four_hex_value (take 4 behind))

-- the sum that was read is that of the bytes from start byte to end byte, or 0
unfoldable pub check_sum : ℕ → List ℕ → Read ℕ
check_sum read bytes =
    if sum bytes % 2 ^ 16 == read || read == 0 then Ok read
    else Err (fault.FileSum read (sum bytes % 2 ^ 16))

-- the text of a file
unfoldable pub frame_of : List ℕ → Read Framed
frame_of bytes =
    start_of bytes >>= λ start.
    length_of (drop (start + 1) bytes) >>= λ len.
    sum_at (drop (start + len + 2) bytes) >>= λ read.
    check_sum read (take (len + 2) (drop start bytes)) >>= λ checked.
    Ok (record { at = start + 1; text = take len (drop (start + 1) bytes) })
