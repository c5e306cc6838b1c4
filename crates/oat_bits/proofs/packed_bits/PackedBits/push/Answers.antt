use Rattle.std.proofs.Common.{◌≡◌, ◌≤◌, ◌+◌, ℕ, Bool, List, ◌++◌, ◌∷◌, [], length, subst, ap, sym, ◌∙◌, arith}
use Rattle.std.proofs.lemmas.List.{length-append}
use Rattle.oat_bits.specs.{Packed.packed, Bits.BitList, Bits.bits_in}
use Rattle.oat_bits.proofs.PackedForm.{length-bits_in, bits_in-packed}
use Rattle.oat_bits.proofs.packed_bits.PackedBits.push.Goals as goal

-- the bytes hold the bits with the one behind them
grown : (count : ℕ) (old new : List ℕ) (bit : Bool) → packed (bits_in count old ++ bit ∷ []) ≡ new → bits_in (count + 1) new ≡ bits_in count old ++ bit ∷ []
grown count old new bit form =
    let long : length (bits_in count old ++ bit ∷ []) ≡ count + 1 = length-append (bits_in count old) (bit ∷ []) ∙ ap (λ n. n + 1) (length-bits_in count old) in
    rw (← long, ← form) (bits_in-packed (bits_in count old ++ bit ∷ []))

pub invariant_of-self : goal.invariant_of-self
invariant_of-self c =
    let room = c.self.invariant.room in
    let fits = c.self.invariant.fits in
    let spare : 1 ≤ c.self.inside.spare = subst (λ (shown : BitList). 1 ≤ shown.spare) (sym c.self.view_is) c.requires.room in
    let same = c.push_bit.ensures.capacity in record {
      form = ap packed (grown c.self.inside.count c.self.inside.bytes.items c.push_bit.new.bytes.items c.args.bit c.push_bit.ensures.form) ∙ c.push_bit.ensures.form;
      room = omega arith;
      fits = omega arith;
    }

pub returns-clause-appended : goal.returns-clause-appended
returns-clause-appended c =
    grown c.self.inside.count c.self.inside.bytes.items c.push_bit.new.bytes.items c.args.bit c.push_bit.ensures.form
    ∙ ap (λ shown. shown.bits ++ c.args.bit ∷ []) c.self.view_is
