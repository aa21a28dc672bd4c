-- Words of four bytes, low byte first: what is stored is read again. Assumes nothing.
use Prim.Native.Nat.{◌%◌, ◌*◌, ◌+◌, ◌/◌, ◌<◌, ◌≤◌, suc, zero, ℕ}
use native.Mathlib.Nat.{add-mul-mod_self_right, add-zero, div-add-mod', mod-eq_of_lt}
use native.Mathlib.Numerals.{unary_clauses}
use native.Mathlib.Omega.{arith}
use mathlib.Core.List.{List, [], ◌∷◌}
use mathlib.Core.Path.{◌∙◌, ◌≡◌, ap, refl, sym}
use borrow.Rule.Slice.PartMut.{put_mid}
use lib.ListN.{get_or, length, length-set, set}
use lib.Seq.{get_or-set_other, get_or-set_same}
use Rattle.layout.specs.Bytes.{of4, word_at, word_byte}
use Rattle.layout.specs.Stands.{store4}

-- what holds of each of four
by-four : (P : ℕ → Type 0) → P 0 → P 1 → P 2 → P 3 → (d : ℕ) → d < 4 → P d
by-four P a b c e zero h = a
by-four P a b c e (suc zero) h = b
by-four P a b c e (suc (suc zero)) h = c
by-four P a b c e (suc (suc (suc zero))) h = e
by-four P a b c e (suc (suc (suc (suc n)))) h = absurd (omega arith)

-- A number and its bytes

word-there : (n : ℕ) → n < 4294967296 → of4 (word_byte n 0) (word_byte n 1) (word_byte n 2) (word_byte n 3) ≡ n
word-there n h =
    let q₁ : ℕ = n / 256 in
    let q₂ : ℕ = n / 65536 in
    let q₃ : ℕ = n / 16777216 in
    let d₂ : q₁ / 256 ≡ q₂ = omega arith in
    let d₃ : q₂ / 256 ≡ q₃ = omega arith in
    let m₃ : q₃ % 256 ≡ q₃ = mod-eq_of_lt (omega arith) in
    omega (arith, div-add-mod' n 256, div-add-mod' q₁ 256, div-add-mod' q₂ 256)

low : (a m : ℕ) → a < 256 → (a + m * 256) % 256 ≡ a
low a m h = add-mul-mod_self_right a m 256 ∙ mod-eq_of_lt h

module _ (bs : List ℕ) (k : ℕ) where
  -- a word whose bytes stand
  pub word_read : (n : ℕ) → n < 4294967296 → ((d : ℕ) → d < 4 → get_or bs (k + d) 0 ≡ word_byte n d) → word_at bs k ≡ n
  word_read n h at =
      let first : get_or bs k 0 ≡ word_byte n 0 = ap (λ (i : ℕ). get_or bs i 0) (sym (add-zero k)) ∙ at 0 (omega arith) in
      rw (first, at 1 (omega arith), at 2 (omega arith), at 3 (omega arith)) (word-there n h)

  module _ (byte : (i : ℕ) → get_or bs i 0 < 256) where
    pub word_small : word_at bs k < 4294967296
    word_small = omega (arith, byte k, byte (k + 1), byte (k + 2), byte (k + 3))

    -- each byte is a byte of the word
    pub word-said : (d : ℕ) → d < 4 → get_or bs (k + d) 0 ≡ word_byte (word_at bs k) d
    word-said =
        let n : ℕ = word_at bs k in
        let b₀ : ℕ = get_or bs k 0 in
        let b₁ : ℕ = get_or bs (k + 1) 0 in
        let b₂ : ℕ = get_or bs (k + 2) 0 in
        let b₃ : ℕ = get_or bs (k + 3) 0 in
        let h₀ : b₀ < 256 = byte k in
        let h₁ : b₁ < 256 = byte (k + 1) in
        let h₂ : b₂ < 256 = byte (k + 2) in
        let h₃ : b₃ < 256 = byte (k + 3) in
        let q₀ : n ≡ b₀ + (b₁ + (b₂ + b₃ * 256) * 256) * 256 = omega arith in
        let q₁ : n / 256 ≡ b₁ + (b₂ + b₃ * 256) * 256 = omega arith in
        let q₂ : n / 65536 ≡ b₂ + b₃ * 256 = omega arith in
        let q₃ : n / 16777216 ≡ b₃ = omega arith in
        by-four (λ (d : ℕ). get_or bs (k + d) 0 ≡ word_byte n d)
        (rw (add-zero k) (sym (ap (λ (m : ℕ). m % 256) q₀ ∙ low b₀ _ h₀)))
        (sym (ap (λ (m : ℕ). m % 256) q₁ ∙ low b₁ _ h₁))
        (sym (ap (λ (m : ℕ). m % 256) q₂ ∙ low b₂ b₃ h₂))
        (sym (ap (λ (m : ℕ). m % 256) q₃ ∙ mod-eq_of_lt h₃))

-- A word stored

four-copied : (bs : List ℕ) (k a b c d : ℕ) → k + 4 ≤ length bs → put_mid k 4 bs (a ∷ b ∷ c ∷ d ∷ []) ≡ set (set (set (set bs k a) (k + 1) b) (k + 2) c) (k + 3) d
four-copied [] k a b c d h = absurd (omega arith)
four-copied (w ∷ []) zero a b c d h = absurd (omega arith)
four-copied (w ∷ x ∷ []) zero a b c d h = absurd (omega arith)
four-copied (w ∷ x ∷ y ∷ []) zero a b c d h = absurd (omega arith)
four-copied (w ∷ x ∷ y ∷ z ∷ bs) zero a b c d h = refl
four-copied (x ∷ bs) (suc k) a b c d h = let ih = four-copied bs k a b c d (omega arith) in let e = simp unary_clauses at ih in simp unary_clauses (ap (λ (l : List ℕ). x ∷ l) e)

module _ (bs : List ℕ) (k n : ℕ) where
  abbrev one : List ℕ
  one = set bs k (word_byte n 0)

  abbrev two : List ℕ
  two = set one (k + 1) (word_byte n 1)

  abbrev three : List ℕ
  three = set two (k + 2) (word_byte n 2)

  -- four bytes copied in at once are as many stores
  pub word-copied : (m : ℕ) (ys : List ℕ) → m ≡ 4 → ys ≡ word_byte n 0 ∷ word_byte n 1 ∷ word_byte n 2 ∷ word_byte n 3 ∷ [] → k + 4 ≤ length bs → put_mid k m bs ys ≡ store4 bs k n
  word-copied m ys e f h = rw (e, f) (four-copied bs k _ _ _ _ h)

  pub word-long : length (store4 bs k n) ≡ length bs
  word-long = simp length-set

  pub word-beside : (i : ℕ) → ((d : ℕ) → d < 4 → i ≡ k + d → ⊥) → get_or (store4 bs k n) i 0 ≡ get_or bs i 0
  word-beside i away =
      get_or-set_other three (k + 3) i _ 0 (away 3 (omega arith)) ∙ get_or-set_other two (k + 2) i _ 0 (away 2 (omega arith))
      ∙ get_or-set_other one (k + 1) i _ 0 (away 1 (omega arith)) ∙ get_or-set_other bs k i _ 0 (λ e. away 0 (omega arith) (omega arith))

  pub word-here : k + 4 ≤ length bs → (d : ℕ) → d < 4 → get_or (store4 bs k n) (k + d) 0 ≡ word_byte n d
  word-here h =
      let past₃ : (i : ℕ) → i < k + 3 → get_or (store4 bs k n) i 0 ≡ get_or three i 0 = λ i l. get_or-set_other three (k + 3) i _ 0 (λ e. omega arith) in
      let past₂ : (i : ℕ) → i < k + 2 → get_or (store4 bs k n) i 0 ≡ get_or two i 0 = λ i l. past₃ i (omega arith) ∙ get_or-set_other two (k + 2) i _ 0 (λ e. omega arith) in
      let past₁ : get_or (store4 bs k n) k 0 ≡ get_or one k 0 = past₂ k (omega arith) ∙ get_or-set_other one (k + 1) k _ 0 (λ e. omega arith) in
      by-four (λ (d : ℕ). get_or (store4 bs k n) (k + d) 0 ≡ word_byte n d)
      (rw (add-zero k) (past₁ ∙ get_or-set_same bs k _ 0 (omega arith)))
      (past₂ (k + 1) (omega arith) ∙ get_or-set_same one (k + 1) _ 0 (simp length-set (omega arith)))
      (past₃ (k + 2) (omega arith) ∙ get_or-set_same two (k + 2) _ 0 (simp length-set (omega arith)))
      (get_or-set_same three (k + 3) _ 0 (simp length-set (omega arith)))
