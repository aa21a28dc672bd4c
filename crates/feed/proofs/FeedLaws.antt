-- Laws of what is held and written, character by character. Assumes nothing.
use Prim.Native.Nat.{ℕ, suc, ◌+◌, ◌-◌, ◌*◌, ◌/◌, ◌≤◌, ◌<◌}
use native.Mathlib.Nat.{le-div_iff_mul-le}
use native.Mathlib.Numerals.{add-one}
use native.Mathlib.Omega.{arith}
use mathlib.Core.Path.{◌≡◌, refl, sym, ap, ◌∙◌}
use mathlib.Core.Bool.{false}
use mathlib.Core.List.{List, [], ◌∷◌, ◌++◌, append-nil, append_assoc}
use lib.Dec.{eqb}
use lib.ListN.{length, take, drop, get_or, set, length-take, length-drop, drop_of_length-le, length-append}
use lib.Seq.{take_all, take-append-le, take-suc-set, take_at, drop_at, drop-drop}
use borrow.Author.Tests.{ne_eqb}
use borrow.Rule.Slice.PartMut.{mid_of, put_mid}
use Rattle.std.specs.Prelude.{if◌then◌else◌}
use Rattle.std.proofs.lemmas.List.{take_more}
use Rattle.lists.proofs.Bools.{split}
use Rattle.lists.specs.Lists.{is_empty}
use Rattle.lines.specs.Line.{line_of}
use Rattle.lines.specs.Answers.{answer_length, newline, answer_to, tables_after, text_of, over}
use Rattle.lines.proofs.AnswerLaws.{text-length}
use Rattle.feed.specs.declared.part.Part.{Part}
use Rattle.feed.specs.declared.feed.Fed.{Fed}
use Rattle.feed.specs.Feed.{Held, holding, held_in, kept, held_next, held_after, written_next, written_over, ending, taken, Serves, ServesAll, Counts}

-- a character more, where there is place for it, and where there is none

module _ (bytes : List ℕ) (count c : ℕ) (long : length bytes ≡ 19) where
  pub held_more : count < 19 → take (count + 1) (set bytes count c) ≡ kept (take count bytes) c
  unfolding kept
  held_more h = rw (add-one count, take-suc-set bytes count c (omega arith)) (sym (take_all 19 _ (simp (length-append, length-take) (omega arith))))

  pub held-full : 19 ≤ count → take count bytes ≡ kept (take count bytes) c
  unfolding kept
  held-full h = rw (take_all count bytes (omega arith), take-append-le 19 bytes (c ∷ []) (omega arith), take_all 19 bytes (omega arith))

-- one character

module _ (h : Held) where
  pub written_one : (c : ℕ) → written_over h (c ∷ []) ≡ written_next h c
  unfolding written_over
  written_one c = append-nil (written_next h c)

  module _ (tables : List ℕ) (part : Part) (before after : List ℕ) where
    pub serves-newline : tables ≡ tables_after h.tables (line_of h.line) → held_in part ≡ [] → after ≡ over (text_of (answer_to h.tables (line_of h.line))) before →
        ServesAll h (newline ∷ []) tables part answer_length before after
    unfolding held_after held_next written_next
    serves-newline t l o =
        record { held-is = rw (t, l) refl; used-is = refl; written_is = rw (written_one newline) (sym (text-length _)); out-is = rw (written_one newline) o }

  pub serves-other : (c : ℕ) (part : Part) (out : List ℕ) → eqb c newline ≡ false → held_in part ≡ kept h.line c → ServesAll h (c ∷ []) h.tables part 0 out out
  unfolding held_after held_next written_next over
  serves-other c part out n l =
      record { held-is = rw (n, l) refl; used-is = refl; written_is = rw (written_one c, n) refl; out-is = rw (written_one c, n) refl }

-- some characters, and others after them

pub held-append : (h : Held) (a b : List ℕ) → held_after h (a ++ b) ≡ held_after (held_after h a) b
unfolding held_after
held-append h [] b = refl
held-append h (c ∷ cs) b = held-append (held_next h c) cs b

pub written-append : (h : Held) (a b : List ℕ) → written_over h (a ++ b) ≡ written_over h a ++ written_over (held_after h a) b
unfolding written_over held_after
written-append h [] b = refl
written-append h (c ∷ cs) b = rw (written-append (held_next h c) cs b) (sym (append_assoc (written_next h c) (written_over (held_next h c) cs) _))

pub serves-none : (bytes : List ℕ) (part : Part) (out : List ℕ) → ServesAll (holding bytes part) [] bytes part 0 out out
unfolding held_after written_over over
serves-none bytes part out = record { held-is = refl; used-is = refl; written_is = refl; out-is = refl }

-- what is left of the buffer takes the answers to what is left of the characters
serves-append : {h : Held} {a b bytes bytes' : List ℕ} {part part' : Part} {m n : ℕ} {before after given : List ℕ} → ServesAll h a bytes part m before after → ServesAll (holding bytes part) b bytes' part' n (drop m after) given →
    ServesAll h (a ++ b) bytes' part' (m + n) before (take m after ++ given)
unfolding over
serves-append {h} {a} {b} {before = before} one next =
    let first = written_over h a in
    let later = written_over (held_after h a) b in
    record {
      held-is = rw (held-append h a b, ← one.held-is) next.held-is;
      used-is = refl;
      written_is = rw (written-append h a b, length-append first, ← one.held-is, one.written_is, next.written_is);
      out-is = rw (next.out-is, one.out-is, one.written_is, one.held-is, take_at first _ _ refl, drop_at first _ _ refl, drop-drop (length later) (length first) before, written-append h a b, length-append first later) (sym (append_assoc first later _));
    }

-- one character more of cs, into what is left of the buffer as it is lent and given back
pub serves-next : {h : Held} (cs : List ℕ) (i : ℕ) {bytes bytes' : List ℕ} {part part' : Part} {m n : ℕ} {before after given : List ℕ} → i < length cs → m ≤ length after → ServesAll h (take i cs) bytes part m before after →
    ServesAll (holding bytes part) (get_or cs i 0 ∷ []) bytes' part' n (mid_of m (length after - m) after) given →
    ServesAll h (take (i + 1) cs) bytes' part' (m + n) before (put_mid m (length after - m) after given)
serves-next cs i {m = m} {after = after} {given} more inside one next =
    let rest = drop m after in
    let short : length rest ≤ length after - m = simp length-drop (omega arith) in
    rw (drop_of_length-le rest short, append-nil given, take_more cs i 0 more) (serves-append one (rw (take_all (length after - m) rest short) at next))

written-room : (h : Held) (cs : List ℕ) → length (written_over h cs) ≤ answer_length * length cs
unfolding written_over written_next
written-room h [] = omega arith
written-room h (c ∷ cs) =
    let on = written-room (held_next h c) cs in
    split (eqb c newline) (λ e. rw e (simp (length-append, text-length) (omega arith))) (λ e. rw e (omega arith))

-- each character took the room of an answer at most
pub served-room : {h : Held} (cs : List ℕ) {bytes : List ℕ} {part : Part} {n : ℕ} {before after : List ℕ} → ServesAll h cs bytes part n before after → n ≤ answer_length * length cs
served-room {h} cs one = rw one.written_is (written-room h cs)

-- with room for an answer to each character, all of them are served
pub served-all : {h : Held} {cs tables : List ℕ} {fed : Fed} {before after : List ℕ} → Serves h (taken cs before) tables fed before after → answer_length * length cs ≤ length before → Serves h cs tables fed before after
unfolding taken
served-all {cs = cs} {before = before} one room =
    let few : length cs * answer_length ≤ length before = omega arith in
    let enough : length cs ≤ length before / answer_length = (le-div_iff_mul-le {k = answer_length} (omega arith)).1 few in
    rw (take_all (length before / answer_length) cs enough) at one

-- what a call writes is the front of its buffer
pub front-written : {h : Held} {cs tables : List ℕ} {fed : Fed} {before after : List ℕ} → Serves h cs tables fed before after → take fed.written after ≡ written_over h cs
unfolding over
front-written {h} {cs} one = rw (one.written_is, one.out-is) (take_at (written_over h cs) _ _ refl)

pub front-counts : {h : Held} {cs tables : List ℕ} {fed : Fed} {before after : List ℕ} → Serves h cs tables fed before after → Counts fed.written after
unfolding over
front-counts {h} {cs} {before = before} one =
    (rw (one.written_is, one.out-is, length-append (written_over h cs) (drop (length (written_over h cs)) before)) (omega arith), one.written_is ∙ ap length (sym (front-written one)))

-- an end is a newline at most
pub ending-short : (line : List ℕ) → length (ending line) ≤ 1
unfolding ending
ending-short line = split (is_empty line) (λ e. rw e (omega arith)) (λ e. rw e (omega arith))

-- the end of a line that was begun, and of none
pub ending-is : (line : List ℕ) → ending line ≡ (if eqb (length line) 0 then [] else newline ∷ [])
unfolding ending is_empty
ending-is [] = refl
ending-is (c ∷ cs) = rw (ne_eqb (suc (length cs)) 0 (λ k. omega arith))
