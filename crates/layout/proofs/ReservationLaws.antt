-- Zeros and alignments: what the code's numbers say, and where an aligned place lies.
use Prim.Native.Nat.{ℕ, ◌+◌, ◌-◌, ◌≤◌, ◌<◌}
use native.Mathlib.Omega.{arith}
use mathlib.Core.Path.{◌≡◌, refl}
use mathlib.Core.Bool.{Bool, true, false, true≢false}
use Rattle.std.proofs.Common.{Some}
use lib.Bits.{bit_and, and_le_r}
use lib.Dec.{T, eqb}
use lib.IntN.{ℤ, pos, negsuc, nat_abs}
use lib.Signed.{lt_z, non_neg}
use mir.Syntax.{w32, w64}
use mir.Val.{Fits, SFits, to_z, of_z}
use mir.Facts.{to_z-of_z}
use borrow.Author.Tests.{eq-eqb, ne_eqb, eqb-true, eqb-false, ltb-true, ltb-false}
use Rattle.std.proofs.Common.{Ok, Err}
use Rattle.layout.specs.declared.directives.Reserve.TheVariants.{Space, Align}
use Rattle.layout.specs.declared.directives.Reservation.TheVariants.{Zeros, Aligns}
use Rattle.layout.specs.Directives.{aligned, reservation}
use Rattle.layout.specs.Code.Rows.{Small}

-- ---- places

module _ (n p : ℕ) where
  -- a place that is aligned stays
  pub aligned_stays : bit_and p (n - 1) ≡ 0 → aligned n p ≡ p
  unfolding aligned
  aligned_stays e = rw (aligned, eq-eqb _ _ e)

  -- another goes n - 1 on, less the bits that it then shares with n - 1
  pub aligned_moves : 1 ≤ n → (bit_and p (n - 1) ≡ 0 → ⊥) → aligned n p ≡ p + (n - 1) - bit_and (p + (n - 1)) (n - 1)
  unfolding aligned
  aligned_moves h e =
      let q : p + n - 1 ≡ p + (n - 1) = omega arith in
      rw (aligned, ne_eqb _ _ e, q)

  -- not back, and by less than n
  pub aligned_bounds : 1 ≤ n → (p ≤ aligned n p) × (aligned n p < p + n)
  aligned_bounds h = go (eqb (bit_and p (n - 1)) 0) refl
    where
      go : (t : Bool) → eqb (bit_and p (n - 1)) 0 ≡ t → (p ≤ aligned n p) × (aligned n p < p + n)
      go true e = rw (aligned_stays (eqb-true _ _ e)) (omega arith, omega arith)
      go false e = let l = and_le_r (p + (n - 1)) (n - 1) in rw (aligned_moves h (eqb-false _ _ e)) (omega arith, omega arith)

-- ---- numbers read: z as the machine reads it back from its bits

module _ (z : ℤ) (f : SFits w32 z) where
  abbrev back : ℤ
  back = to_z w32 (of_z w32 z)

  -- not below a number, it is its own bits
  pub size_fits : (k : ℕ) → lt_z back (pos k) ≡ false → T (non_neg back) × Fits w64 (nat_abs back)
  size_fits k e = rw (to_z-of_z f) (go z f (rw (to_z-of_z f) at e))
    where
      go : (z : ℤ) → SFits w32 z → lt_z z (pos k) ≡ false → T (non_neg z) × Fits w64 (nat_abs z)
      go (pos n) g e = (tt, record { fits = omega (arith, g.sfits) })
      go (negsuc n) g e = absurd (true≢false e)

  pub space_wrong : lt_z back (pos 0) ≡ true → Err 7 ≡ reservation Space (Some z)
  space_wrong e = go z (rw (to_z-of_z f) at e)
    where
      go : (z : ℤ) → lt_z z (pos 0) ≡ true → Err 7 ≡ reservation Space (Some z)
      go (pos n) e = absurd (omega (arith, ltb-true n 0 e))
      go (negsuc n) e = refl

  pub space_right : lt_z back (pos 0) ≡ false → (Ok (Zeros (nat_abs back)) ≡ reservation Space (Some z)) × Small (Zeros (nat_abs back))
  space_right e = rw (to_z-of_z f) (go z f (rw (to_z-of_z f) at e))
    where
      go : (z : ℤ) → SFits w32 z → lt_z z (pos 0) ≡ false → (Ok (Zeros (nat_abs z)) ≡ reservation Space (Some z)) × Small (Zeros (nat_abs z))
      go (pos n) g e = (refl, omega (arith, g.sfits))
      go (negsuc n) g e = absurd (true≢false e)

  pub align_wrong : lt_z back (pos 1) ≡ true → Err 7 ≡ reservation Align (Some z)
  align_wrong e = go z (rw (to_z-of_z f) at e)
    where
      go : (z : ℤ) → lt_z z (pos 1) ≡ true → Err 7 ≡ reservation Align (Some z)
      go (pos n) e = rw (eq-eqb n 0 (omega (arith, ltb-true n 1 e))) refl
      go (negsuc n) e = refl

  pub align_right : lt_z back (pos 1) ≡ false → (Ok (Aligns (nat_abs back)) ≡ reservation Align (Some z)) × Small (Aligns (nat_abs back))
  align_right e = rw (to_z-of_z f) (go z f (rw (to_z-of_z f) at e))
    where
      go : (z : ℤ) → SFits w32 z → lt_z z (pos 1) ≡ false → (Ok (Aligns (nat_abs z)) ≡ reservation Align (Some z)) × Small (Aligns (nat_abs z))
      go (pos n) g e = (rw (ne_eqb n 0 (λ q. omega (arith, ltb-false n 1 e))) refl, (omega (arith, ltb-false n 1 e), omega (arith, g.sfits)))
      go (negsuc n) g e = absurd (true≢false e)
