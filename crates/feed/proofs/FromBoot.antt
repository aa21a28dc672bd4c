-- From boot on, the bench writes what the rules say of each line. Assumes nothing.
use Prim.Native.Nat.{ℕ, ◌^◌, ◌<◌}
use mathlib.Core.Path.{◌≡◌, refl, ◌∙◌}
use mathlib.Core.List.{List, [], ◌∷◌}
use lib.Dec.{eqb}
use lib.ListN.{length, take, drop}
use mir.Syntax.{w32}
use mir.Val.{SFits}
use mir.ValLaws.{to_z-Fits}
use Rattle.std.specs.Prelude.{Option, Some, None, IfSome}
use Rattle.lists.proofs.Bools.{split}
use Rattle.tables.specs.declared.Tables.{Tables}
use Rattle.tables.specs.Boot.{boot}
use Rattle.tables.specs.Sound.{Sound}
use Rattle.tables.specs.Counts.{CountsFit}
use Rattle.tables.specs.Readers.{current_of}
use Rattle.tables.proofs.BootLaws.{sound-boot}
use Rattle.layout.specs.Offsets.{size}
use Rattle.layout.specs.Bytes.{to_bytes}
use Rattle.rules.proofs.Kept.{sound-numbered}
use Rattle.rules.proofs.Fits.{fits-boot, fits-numbered}
use Rattle.soundness.specs.Good.{current_byte}
use Rattle.cottonsedge.specs.Entries.{booted}
use Rattle.cottonsedge.specs.Fields.{packed}
use Rattle.cottonsedge.proofs.Calls.{back, call-bytes, call-packed}
use Rattle.cottonsedge.proofs.Standing.{sound-good}
use Rattle.lines.specs.declared.line.Request.{Request}
use Rattle.lines.specs.Hex.{field_of}
use Rattle.lines.specs.Line.{line_length, line_of, request_of}
use Rattle.lines.specs.Answers.{answer_to, tables_after}
use Rattle.lines.proofs.HexLaws.{field-below}
use Rattle.feed.specs.Answers.{lines_of, answers_to, answers}
use Rattle.feed.specs.Chunks.{start, Session, joined}
use Rattle.feed.specs.Ruled.{outcome_of, ruled}
use Rattle.feed.proofs.Whole.{bench-answered}

-- the arguments that a line names are signed numbers of 32 bits

abbrev ArgumentsFit : Option Request → Type 0
ArgumentsFit l = IfSome l (λ r. SFits w32 r.a × SFits w32 r.b)

abbrev IsWord : Option ℕ → Type 0
IsWord field = IfSome field (λ v. v < 16 ^ 8)

fields_fit : (n a b : Option ℕ) → IsWord a → IsWord b → ArgumentsFit (request_of n a b)
fields_fit None a b h k = tt
fields_fit (Some n) None b h k = tt
fields_fit (Some n) (Some a) None h k = tt
fields_fit (Some n) (Some a) (Some b) h k = (to_z-Fits w32 a (record { fits = h }), to_z-Fits w32 b (record { fits = k }))

line-fits : (cs : List ℕ) → ArgumentsFit (line_of cs)
unfolding line_of
line-fits cs =
    split (eqb (length cs) line_length)
    (λ e. rw e (fields_fit (field_of (take 2 cs)) (field_of (take 8 (drop 2 cs))) (field_of (take 8 (drop 10 cs))) (field-below 8 _ (λ h. h)) (field-below 8 _ (λ h. h))))
    (λ e. rw e tt)

-- one line on the bytes of sound tables whose counts fit

record Goes (t : Tables) (l : Option Request) : Type 0 where
  told : answer_to (to_bytes t) l ≡ packed (outcome_of t l).answer (current_of (outcome_of t l).tables)
  left : tables_after (to_bytes t) l ≡ to_bytes (outcome_of t l).tables
  sound : Sound (outcome_of t l).tables
  fits : CountsFit (outcome_of t l).tables

module _ {t : Tables} (S : Sound t) (F : CountsFit t) where
  goes : (l : Option Request) → ArgumentsFit l → Goes t l
  unfolding current_byte
  goes (Some r) (fa, fb) =
      record { told = call-packed S F r.number r.a r.b; left = call-bytes S F r.number r.a r.b; sound = sound-numbered S r.number r.a r.b; fits = (fits-numbered S F r.number r.a r.b fa fb).0 }
  goes None k = record { told = rw (sound-good S F, back S F); left = refl; sound = S; fits = F }

-- all lines

pub answers-ruled : {t : Tables} → Sound t → CountsFit t → (lines : List (List ℕ)) → answers_to (to_bytes t) lines ≡ ruled t lines
unfolding answers_to ruled
answers-ruled {t = t} S F [] = refl
answers-ruled {t = t} S F (line ∷ lines) =
    let one = goes S F (line_of line) (line-fits line) in
    rw (one.told, one.left, answers-ruled {t = (outcome_of t (line_of line)).tables} one.sound one.fits lines)

pub boot-ruled : (input : List ℕ) → answers (to_bytes boot) input ≡ ruled boot (lines_of input)
unfolding answers
boot-ruled input = answers-ruled sound-boot fits-boot (lines_of input)

-- begun with what `cottonsedge_boot` writes, the whole output of the bench is what the rules say of the lines of its whole input
pub bench-ruled : (bytes : List ℕ) {chunks : List (List ℕ)} {out : List ℕ} → length bytes ≡ size → Session (start (booted bytes)) chunks out → out ≡ ruled boot (lines_of (joined chunks))
bench-ruled bytes {chunks} long session = bench-answered bytes long session ∙ boot-ruled (joined chunks)
