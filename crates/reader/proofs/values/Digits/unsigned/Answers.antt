use Rattle.std.proofs.Common.{◌≡◌, ℕ, ◌^◌, ◌<◌, ◌≤◌, true, List, length, ℤ, pos, nat_abs, sym, subst, arith, w64, to_z, rules}
use native.Mathlib.Nat.{pow-le-pow_right}
use lib.Signed.{le_z}
use Rattle.std.proofs.lemmas.Int.{to_z_pos, ints}
use Rattle.digits.specs.Fields.{Number}
use Rattle.reader.proofs.values.Digits.unsigned.Goals as goal

small : (s : List ℕ) (n : ℕ) → length s ≤ 8 → Number s n → n < 4294967296
small s n short r =
    let most : 16 ^ length s ≤ 16 ^ 8 = pow-le-pow_right (omega arith) short in
    omega (arith, r.fits)

pub overflow_cast-result : goal.overflow_cast-result
overflow_cast-result g c =
    let less = small c.args.self.bytes.now c.figure.result (omega (arith, c.args.self.sized, c.requires)) c.figure.ensures in
    search rules

pub returns : goal.returns
returns g c =
    let less = small c.args.self.bytes.now c.figure.result (omega (arith, c.args.self.sized, c.requires)) c.figure.ensures in
    let same : to_z w64 c.figure.result ≡ pos c.figure.result = to_z_pos w64 c.figure.result (omega (arith, less)) in
    let sign : le_z (pos 0) (pos c.figure.result) ≡ true = grind (arith, ints) in
    record {
      value = subst (λ (z : ℤ). Number c.args.self.bytes.now (nat_abs z)) (sym same) c.figure.ensures;
      sign = subst (λ (z : ℤ). le_z (pos 0) z ≡ true) (sym same) sign;
    }
