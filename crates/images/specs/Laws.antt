-- The levels of an image by their number, and 01's example P13. Assumes nothing.
use Rattle.std.specs.Prelude.{◌≡◌, refl, Bool, true, false, [], ◌∷◌, ℕ, zero, suc, ◌/◌, ◌^◌, ◌≤◌, ◌<◌, max, leb, get_or}
use Rattle.std.proofs.Common.{sym, ap, ap₂, ◌∙◌, arith, div-le_self}
use Rattle.std.proofs.Math.Nat.{pow-succ', div-div-eq-div-mul, zero-div}
use borrow.Author.Tests.{leb-true, le-leb}
use Rattle.layout.specs.Image.{pixel_bytes, block_bytes, level_bytes, levels, digits}
use Rattle.images.specs.Level.{Lawful, when, level_size_of}

-- a side halved once and then i times is halved i + 1 times
pub halved_again : (i w : ℕ) → max 1 (max 1 (w / 2) / 2 ^ i) ≡ max 1 (w / 2 ^ suc i)
halved_again i w = go (w / 2) (div-div-eq-div-mul w 2 (2 ^ i) ∙ ap (λ (n : ℕ). w / n) (sym (pow-succ' 2 i)))
  where
    go : (h : ℕ) → h / 2 ^ i ≡ w / 2 ^ suc i → max 1 (max 1 h / 2 ^ i) ≡ max 1 (w / 2 ^ suc i)
    go zero e = omega (arith, div-le_self 1 (2 ^ i), zero-div (2 ^ i))
    go (suc h) e = let m : max 1 (suc h) ≡ suc h = omega arith in rw (m, e)

-- 01: "Level i has sides halved i times, rounded down, at least 1"
pub level_at : (i n f w h : ℕ) → i < n → 1 ≤ w → 1 ≤ h → get_or (levels f w h n) i 0 ≡ level_bytes f (max 1 (w / 2 ^ i)) (max 1 (h / 2 ^ i))
unfolding levels
level_at i zero f w h p q r = absurd (omega arith)
level_at zero (suc n) f w h p q r = ap₂ (level_bytes f) (omega arith) (omega arith)
level_at (suc i) (suc n) f w h p q r =
    rw (← halved_again i w, ← halved_again i h) (level_at i n f (max 1 (w / 2)) (max 1 (h / 2)) (omega arith) (omega arith) (omega arith))

if_when : (t : Bool) (n : ℕ) → (t ≡ true → n ≡ 0) → when t n ≡ 0
unfolding when
if_when true n f = f refl
if_when false n f = refl

module _ (f w h i : ℕ) where
  pub unlawful_size : (Lawful f w h i → ⊥) → level_size_of f w h i ≡ 0
  unfolding level_size_of
  unlawful_size not =
      if_when (leb f 18) _ (λ a. if_when (leb 1 w) _ (λ b. if_when (leb w 4096) _ (λ c. if_when (leb 1 h) _ (λ d. if_when (leb h 4096) _ (λ e. if_when (leb i 12) _ (λ g.
      absurd (not (leb-true f 18 a, leb-true 1 w b, leb-true w 4096 c, leb-true 1 h d, leb-true h 4096 e, leb-true i 12 g))))))))

  pub lawful_size_lem : Lawful f w h i → level_size_of f w h i ≡ level_bytes f (max 1 (w / 2 ^ i)) (max 1 (h / 2 ^ i))
  unfolding level_size_of when
  lawful_size_lem b =
      rw (le-leb f 18 b.0, le-leb 1 w b.1, le-leb w 4096 b.2, le-leb 1 h b.3, le-leb h 4096 b.4, le-leb i 12 b.5)
      (level_at i (suc i) f w h (omega arith) b.1 b.3)

  -- the same entry however many levels are listed
  pub level-size : (n : ℕ) → i < n → Lawful f w h i → level_size_of f w h i ≡ get_or (levels f w h n) i 0
  level-size n p b = lawful_size_lem b ∙ sym (level_at i n f w h p b.1 b.3)

-- 01, P13: "5 by 3 has at most 3 levels; Color 60, 8, 4; Dxt1 16, 8, 8"
pub p13 : (digits 32 (max 5 3) ≡ 3) × (levels 0 5 3 3 ≡ 60 ∷ 8 ∷ 4 ∷ []) × (levels 4 5 3 3 ≡ 16 ∷ 8 ∷ 8 ∷ [])
unfolding digits levels level_bytes pixel_bytes block_bytes
p13 = (refl, refl, refl)
