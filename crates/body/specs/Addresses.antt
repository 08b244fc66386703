-- 01, "The frame": "Address: one byte .., or 00 and then three bytes of serial number, low byte first." 02, request 1: "a short address is 01 to
-- FD". "Refusals: 5 now means a short address outside 01 to FD or a serial too large"; 01 on the serial: "above 16,777,215".
use Rattle.std.specs.Prelude.{ℕ, Bool, cond, ◌&&◌, List, [], ◌∷◌, get_or, leb, eqb}
use Rattle.low_first.specs.LowFirst.{low_first, low_bytes}
use Rattle.body.specs.declared.addresses.Address.{Address}
use Rattle.body.specs.declared.addresses.Address.TheVariants.{Short, Serial}

-- "a short address is 01 to FD"
abbrev pub highest_short : ℕ
highest_short = 0xFD

-- the one rule of a legal address, for reading and for writing
unfoldable pub legal : Address → Bool
legal (Short address) = leb 1 address && leb address highest_short
legal (Serial serial) = leb serial 16_777_215

-- an address as it stands on the wire
unfoldable pub address_bytes : Address → List ℕ
address_bytes (Short address) = address ∷ []
address_bytes (Serial serial) = 0 ∷ low_bytes 3 serial

-- the address that a body begins with: a first byte 00 says that a serial follows
unfoldable pub address_in : List ℕ → Address
address_in body = cond (eqb (get_or body 0 0) 0) (Serial (low_first (get_or body 1 0 ∷ get_or body 2 0 ∷ get_or body 3 0 ∷ []))) (Short (get_or body 0 0))

-- how many bytes of a body its address takes
unfoldable pub address_length : Address → ℕ
address_length (Short address) = 1
address_length (Serial serial) = 4

-- an address as two numbers: its first byte on the wire, and its serial, which is zero for a short address
abbrev pub first_byte : Address → ℕ
first_byte (Short address) = address
first_byte (Serial serial) = 0

abbrev pub serial_of : Address → ℕ
serial_of (Short address) = 0
serial_of (Serial serial) = serial
