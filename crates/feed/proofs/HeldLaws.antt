-- A Part is what it holds: behind that stand zeros. Assumes nothing.
use Prim.Native.Nat.{ℕ, ◌+◌, ◌-◌, ◌≤◌}
use native.Mathlib.Omega.{arith}
use mathlib.Core.Path.{◌≡◌, refl, sym, ap, ◌∙◌}
use mathlib.Core.HLevel.{is_prop→PathP}
use mathlib.Core.List.{List}
use lib.ListN.{length, drop, set, replicate}
use Rattle.std.proofs.Props.{props}
use Rattle.std.proofs.lemmas.List.{drop-drop, drop-replicate, drop-set-lt, length-take-le, take-append-drop}
use Rattle.lines.specs.Line.{line_length}
use Rattle.feed.specs.declared.part.Part.{Part}
use Rattle.feed.specs.declared.feed.Fed.{Fed}
use Rattle.feed.specs.Feed.{held_in}

-- a character more, and a zero less behind it
pub zeros-on : (bytes : List ℕ) (count c : ℕ) → drop count bytes ≡ replicate (line_length + 1 - count) 0 → drop (count + 1) (set bytes count c) ≡ replicate (line_length + 1 - (count + 1)) 0
zeros-on bytes count c rest =
    drop-set-lt (count + 1) bytes count c (omega arith) ∙ sym (drop-drop 1 count bytes) ∙ ap (drop 1) rest ∙ drop-replicate 1 (line_length + 1 - count) 0 ∙ ap (λ (n : ℕ). replicate n 0) (omega arith)

-- two that hold the same

same-part : (a b : Part) → a.bytes ≡ b.bytes → a.count ≡ b.count → a ≡ b
same-part a b e f = λ i. record {
  bytes = e i;
  count = f i;
  within = is_prop→PathP (λ j. f j ≤ length (e j)) (λ j. hlevel props) a.within b.within i;
  rest = is_prop→PathP (λ j. drop (f j) (e j) ≡ replicate (line_length + 1 - f j) 0) (λ j. hlevel props) a.rest b.rest i;
}

module _ (a b : Part) (h : held_in a ≡ held_in b) where
  same-count : a.count ≡ b.count
  same-count = sym (length-take-le a.count a.bytes a.within) ∙ ap length h ∙ length-take-le b.count b.bytes b.within

  pub held-fixes : a ≡ b
  held-fixes = same-part a b (sym (take-append-drop a.count a.bytes) ∙ rw (h, a.rest, b.rest, same-count) refl ∙ take-append-drop b.count b.bytes) same-count

pub fed-fixed : (a b : Fed) → held_in a.part ≡ held_in b.part → a.used ≡ b.used → a.written ≡ b.written → a ≡ b
fed-fixed a b h u w = λ i. record { part = held-fixes a.part b.part h i; used = u i; written = w i }
