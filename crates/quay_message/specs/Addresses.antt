-- Addresses as they cross to another language, as two numbers.
use Rattle.std.specs.Prelude.{ℕ, cond, eqb}
use Rattle.body.specs.declared.addresses.Address.{Address}
use Rattle.body.specs.declared.addresses.Address.TheVariants.{Short, Serial}

-- a short address and serial 0, or short 0 and a serial; both at once stand for the short address 0, which no frame may carry
unfoldable pub address_from : ℕ → ℕ → Address
address_from short serial = cond (eqb short 0) (Serial serial) (cond (eqb serial 0) (Short short) (Short 0))
