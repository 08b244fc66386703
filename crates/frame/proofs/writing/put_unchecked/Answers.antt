-- `frame::put_unchecked` meets its contract: address, code and data lie one behind the other.
-- Why: pieces laid one behind the other are one piece.
use native.Mathlib.Omega.{arith}
use lib.ListN.{length-append}
use Rattle.body.specs.Body.{unchecked}
use Rattle.frame.proofs.Pieces.{unchecked_laid}
use Rattle.frame.proofs.writing.put_unchecked.Goals as goal

pub put_address-behind_address-requires : goal.put_address-behind_address-requires
unfolding unchecked
put_address-behind_address-requires c = omega (arith, simp length-append at c.requires)

pub returns : goal.returns
returns c =
    unchecked_laid c.args.address c.requires c.put_address-behind_address.ensures c.lay_byte-behind_code.ensures c.lay.ensures
