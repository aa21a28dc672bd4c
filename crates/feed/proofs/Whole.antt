-- However the input is cut into chunks, what is written is the answers to its lines. Assumes nothing.
use Rattle.std.specs.Prelude.{if◌then◌else◌}
use Prim.Native.Nat.{ℕ, ◌≤◌}
use native.Mathlib.Nat.{min-eq_left}
use native.Mathlib.Omega.{arith}
use mathlib.Core.Path.{◌≡◌, refl, sym, ap, ◌∙◌}
use mathlib.Core.Bool.{false}
use mathlib.Core.List.{List, [], ◌∷◌, ◌++◌, append-nil, append_assoc}
use lib.Dec.{eqb}
use lib.ListN.{length, take, length-take}
use lib.Seq.{take_all, take-append-le, append_snoc}
use borrow.Author.Tests.{eqb-true, ne_eqb}
use Rattle.lists.specs.Lists.{is_empty}
use Rattle.lists.proofs.Bools.{split, below?}
use Rattle.tables.specs.Boot.{boot}
use Rattle.layout.specs.Offsets.{size}
use Rattle.layout.specs.Bytes.{to_bytes}
use Rattle.cottonsedge.specs.Entries.{booted}
use Rattle.cottonsedge.proofs.BootBytes.{boot-bytes}
use Rattle.lines.specs.Line.{line_of}
use Rattle.lines.specs.Answers.{newline, answer_to, tables_after, text_of}
use Rattle.feed.specs.Answers.{before, lines_of, answers_to, answers}
use Rattle.feed.specs.Feed.{Held, kept, held_next, held_after, written_next, written_over, ending}
use Rattle.feed.proofs.FeedLaws.{held-append, written-append, front-written}
use Rattle.feed.specs.Chunks.{start, Session, finished, fed-first, joined}

-- some characters before the first of some lines
abbrev begun : List ℕ → List (List ℕ) → List (List ℕ)
begun line [] = if is_empty line then [] else line ∷ []
begun line (l ∷ lines) = (line ++ l) ∷ lines

-- the characters that are held tell of a line what all of it does

full : (line : List ℕ) → 19 ≤ length line → length (take 19 line) ≡ 19
full line h = length-take 19 line ∙ min-eq_left h

line-held : (line : List ℕ) → line_of (take 19 line) ≡ line_of line
unfolding line_of
line-held line =
    below? (length line) 19
    (λ h. rw (take_all 19 line (omega arith)))
    (λ h. let e = full line h in rw (ne_eqb (length (take 19 line)) 18 (λ k. omega arith), ne_eqb (length line) 18 (λ k. omega arith)))

kept-held : (line : List ℕ) (c : ℕ) → kept (take 19 line) c ≡ take 19 (line ++ c ∷ [])
unfolding kept
kept-held line c =
    below? (length line) 19
    (λ h. rw (take_all 19 line (omega arith)))
    (λ h. let e = full line h in rw (take-append-le 19 (take 19 line) (c ∷ []) (omega arith), take-append-le 19 line (c ∷ []) h, take_all 19 (take 19 line) (omega arith)))

empty-held : (line : List ℕ) → is_empty (take 19 line) ≡ is_empty line
unfolding is_empty
empty-held [] = refl
empty-held (x ∷ xs) = refl

-- lines that begin with some characters

begun-none : (lines : List (List ℕ)) → begun [] lines ≡ lines
unfolding is_empty
begun-none [] = refl
begun-none (l ∷ lines) = refl

some : (line : List ℕ) (c : ℕ) → is_empty (line ++ c ∷ []) ≡ false
unfolding is_empty
some [] c = refl
some (x ∷ xs) c = refl

begun_more : (line : List ℕ) (c : ℕ) (lines : List (List ℕ)) → begun (line ++ c ∷ []) lines ≡ begun line (before c lines)
begun_more line c [] = rw (some line c)
begun_more line c (l ∷ lines) = rw (append_snoc line c l)

-- what is held of a line
abbrev holds : List ℕ → List ℕ → Held
holds bytes line = record { tables = bytes; line = take 19 line }

module _ (bytes line : List ℕ) where
  ended_held : held_next (holds bytes line) newline ≡ holds (tables_after bytes (line_of line)) []
  unfolding held_next
  ended_held = rw (line-held line)

  ended-written : written_next (holds bytes line) newline ≡ text_of (answer_to bytes (line_of line))
  unfolding written_next
  ended-written = rw (line-held line)

  module _ (c : ℕ) (n : eqb c newline ≡ false) where
    more-held : held_next (holds bytes line) c ≡ holds bytes (line ++ c ∷ [])
    unfolding held_next
    more-held = rw (n, kept-held line c)

    more-written : written_next (holds bytes line) c ≡ []
    unfolding written_next
    more-written = rw n

-- what is written from h on, to the end of the input
abbrev pub whole : Held → List ℕ → List ℕ
whole h cs = written_over h cs ++ written_over (held_after h cs) (ending (held_after h cs).line)

whole-none : (h : Held) → written_over h (ending h.line) ≡ whole h []
unfolding written_over held_after
whole-none h = refl

whole-next : (h : Held) (c : ℕ) (cs : List ℕ) → whole h (c ∷ cs) ≡ written_next h c ++ whole (held_next h c) cs
unfolding written_over held_after
whole-next h c cs = append_assoc (written_next h c) (written_over (held_next h c) cs) _

whole-answers : (bytes line cs : List ℕ) → whole (holds bytes line) cs ≡ answers_to bytes (begun line (lines_of cs))
unfolding written_over held_after ending answers_to lines_of
whole-answers bytes line [] = split (is_empty line) (λ e. rw (empty-held line, e)) (λ e. rw (empty-held line, e, ended-written bytes line))
whole-answers bytes line (c ∷ cs) =
    whole-next (holds bytes line) c cs
    ∙ split (eqb c newline)
    (λ e.
    let on = whole-answers (tables_after bytes (line_of line)) [] cs in
    rw (e, eqb-true c newline e, ended_held bytes line, ended-written bytes line, on, begun-none (lines_of cs), append-nil line))
    (λ e. rw (e, more-held bytes line c e, more-written bytes line c e, whole-answers bytes (line ++ c ∷ []) cs, begun_more line c (lines_of cs)))

-- from the start of an input to its end
pub whole-start : (bytes cs : List ℕ) → whole (start bytes) cs ≡ answers bytes cs
unfolding answers
whole-start bytes cs = whole-answers bytes [] cs ∙ ap (answers_to bytes) (begun-none (lines_of cs))

-- chunks

session-whole : {h : Held} {chunks : List (List ℕ)} {out : List ℕ} → Session h chunks out → out ≡ whole h (joined chunks)
unfolding joined
session-whole {h} (finished one) = front-written one ∙ whole-none h
session-whole {h} (fed-first {chunk = a} {chunks = chunks} one later) =
    rw (front-written one, session-whole later, one.held-is, written-append h a (joined chunks), held-append h a (joined chunks))
    (sym (append_assoc (written_over h a) (written_over (held_after h a) (joined chunks)) _))

-- however the input is cut, all that is written is the answers to its lines
pub session-answered : {bytes : List ℕ} {chunks : List (List ℕ)} {out : List ℕ} → Session (start bytes) chunks out → out ≡ answers bytes (joined chunks)
session-answered {bytes} {chunks} session = session-whole session ∙ whole-start bytes (joined chunks)

-- the bench: begun with what `cottonsedge_boot` writes, its whole output is the answers to its whole input from the boot tables on
pub bench-answered : (bytes : List ℕ) {chunks : List (List ℕ)} {out : List ℕ} → length bytes ≡ size → Session (start (booted bytes)) chunks out → out ≡ answers (to_bytes boot) (joined chunks)
bench-answered bytes {chunks} long session = session-answered session ∙ ap (λ (bs : List ℕ). answers bs (joined chunks)) (boot-bytes bytes long)
