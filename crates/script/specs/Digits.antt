-- Numbers and bytes in digits. digit_value is what a digit or a letter stands for, a letter at least 10, and 36 for any other
-- byte; digits_value is the number that digits write.
use Rattle.std.specs.Prelude.{ℕ, ◌+◌, ◌*◌, ◌/◌, ◌%◌, Bool, cond, ◌&&◌, List, [], map, length, Some, None, Option, ◌==◌, nat_le, nat_lt, slice_index, codes}
use Rattle.std.specs.Str.{bytes_eq}
use Rattle.std.specs.List.{list_all, range_with_len}
use Rattle.std.specs.Str.Parse.{digits_value}
use Rattle.std.specs.Char.{digit_value}

-- every byte is a digit of the base
abbrev pub in_digits : ℕ → List ℕ → Bool
in_digits base word = list_all (λ c. nat_lt (digit_value c) base) word

-- the number that a word stands for: at least one decimal digit, and no more than the limit
abbrev pub decimal_number : ℕ → List ℕ → Option ℕ
decimal_number limit word = cond (nat_lt 0 (length word) && (in_digits 10 word && nat_le (digits_value 10 word) limit)) (Some (digits_value 10 word)) None

-- the byte at an index, two digits for each
abbrev pub hex_byte : List ℕ → ℕ → ℕ
hex_byte word index = digit_value (slice_index word (2 * index)) * 16 + digit_value (slice_index word (2 * index + 1))

-- the bytes that digits stand for
abbrev pub hex_bytes : List ℕ → List ℕ
hex_bytes word = map (hex_byte word) (range_with_len 0 (length word / 2))

-- digits for at least one byte
abbrev pub is_hex : List ℕ → Bool
is_hex word = nat_lt 0 (length word) && (length word % 2 == 0 && in_digits 16 word)

-- the bytes that a word stands for: none of them for a hyphen
abbrev pub hex_word : List ℕ → Option (List ℕ)
hex_word word = cond (bytes_eq word (codes "-")) (Some []) (cond (is_hex word) (Some (hex_bytes word)) None)
