-- 01, "Judged examples": how words and numbers are spelt in a listing, as lists of bytes.
use Rattle.std.specs.Prelude.{ℕ, zero, suc, ◌+◌, ◌/◌, ◌%◌, Bool, cond, List, [], ◌∷◌, ◌++◌, ltb}
use Prim.Native.Char.{code}
use Prim.Native.String.{String, [] as ended, ◌∷◌ as ◌before◌}
use Rattle.body.specs.declared.addresses.Address.{Address}
use Rattle.body.specs.declared.addresses.Address.TheVariants.{Short, Serial}

-- the bytes of a word
abbrev pub spelt : String → List ℕ
spelt ended = []
spelt (letter before rest) = code letter ∷ spelt rest

-- the byte of a digit: 0 to 9, and then the capital letters A to F
abbrev pub digit : ℕ → ℕ
digit value = cond (ltb value 10) (48 + value) (55 + value)

-- the last `width` digits of a number in a base, the highest first
abbrev pub digits : ℕ → ℕ → ℕ → List ℕ
digits base zero number = []
digits base (suc width) number = digits base width (number / base) ++ (digit (number % base) ∷ [])

abbrev pub six_digits : ℕ → List ℕ
six_digits number = digits 10 6 number

abbrev pub one_digit : ℕ → List ℕ
one_digit number = digits 10 1 number

-- "two capital hex digits"
abbrev pub hex_byte : ℕ → List ℕ
hex_byte byte = digits 16 2 byte

-- a number in decimal, without leading zeros: its tens, if it has any, and then its last digit; at most `more` digits stand ahead of the last
unfoldable pub decimal_in : ℕ → ℕ → List ℕ
decimal_in zero number = digit number ∷ []
decimal_in (suc more) number = cond (ltb number 10) (digit number ∷ []) (decimal_in more (number / 10) ++ (digit (number % 10) ∷ []))

-- the numbers of a listing are below 2^64, and so have at most 20 digits
unfoldable pub decimal : ℕ → List ℕ
decimal number = decimal_in 19 number

-- "address, or `0:` and the serial, in decimal"
abbrev pub address_text : Address → List ℕ
address_text (Short address) = decimal address
address_text (Serial serial) = spelt "0:" ++ decimal serial

-- "sign bit as + or -"
abbrev pub sign_byte : Bool → ℕ
sign_byte minus = cond minus (code "-") (code "+")

-- a mark that is set or not
abbrev pub mark_byte : Bool → ℕ
mark_byte mark = cond mark (code "1") (code "0")
