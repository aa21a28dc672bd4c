-- The status page: every result that its contract allows, on any bytes, and on the bytes that any session leaves. Assumes nothing.
use Prim.Native.Nat.{◌<◌, ◌≤◌, ℕ}
use native.Mathlib.Omega.{arith}
use mathlib.Core.Bool.{true, true≢false}
use mathlib.Core.List.{List, ◌++◌}
use mathlib.Core.Logic.{◌≢◌, ◌↔◌, inl, inr, ⊎_elim}
use mathlib.Core.Path.{◌∙◌, ◌≡◌, ap, refl, sym}
use lib.IntN.{pos}
use lib.ListN.{drop, length}
use lib.Seq.{drop-append_seam, take-append_seam}
use mir.Syntax.{w32}
use mir.Val.{SFits, of_z}
use Rattle.layout.specs.Bytes.{from_bytes}
use Rattle.layout.specs.Offsets.{size}
use Rattle.lists.specs.Lists.{at_place}
use Rattle.promises.specs.Record.{Entry, Request, blocked}
use Rattle.rules.specs.Answers.{number_of, value_of}
use Rattle.rules.specs.declared.Answer.{Answer}
use Rattle.rules.specs.declared.Answer.TheVariants.{Done, Refused}
use Rattle.soundness.specs.Good.{current_byte, good}
use Rattle.status.specs.declared.Row.{Row}
use Rattle.status.specs.Rows.{rows}
use Rattle.status.specs.Shown.{queue_shown, shown_at}
use Rattle.tables.specs.Limits.{process_limit}
use Rattle.tables.specs.Readers.{live}
use Rattle.telling.specs.Reasons.{FirstOf}
use Rattle.cottonsedge.specs.Entries.{booted}
use Rattle.cottonsedge.specs.Fields.{refusal_field, value_field}
use Rattle.cottonsedge.specs.Pages.{left_by, page_answer, page_number, rows_after}
use Rattle.promises.proofs.Demand.{demand3-queue}
use Rattle.soundness.proofs.GoodBytes.{current-small, good-sound}
use Rattle.status.proofs.Queues.{place-shown, queue-shown}
use Rattle.status.proofs.RowByRow.{rows_long}
use Rattle.tables.proofs.LineLaws.{live-few}
use Rattle.tables.proofs.Sentences.{live-some}
use Rattle.cottonsedge.proofs.FieldLaws.{packed-small, process-back, refusal-back, value-back}
use Rattle.cottonsedge.proofs.PageLaws.{answer-bad, answer-done, answer-few, page-cases}
use Rattle.demands.specs.Demands.{Demand2, Kernel}
use Rattle.demands.specs.Pages.{PageAllowed, PageResult, PageTold, reasons_of_page, shown_by}
use Rattle.demands.specs.Sessions.{AllAsked, exchanges, left, record_seen}
use Rattle.demands.proofs.Sessions.{demand3-of-bytes, left-good}

-- any two results that the contract allows are the same
pub page-once : {bs : List ℕ} {lent : List Row} {x y : PageResult} → PageAllowed bs lent x → PageAllowed bs lent y → x ≡ y
page-once c d = λ i. record { answer = (c.answer ∙ sym d.answer) i; rows = (c.rows ∙ sym d.rows) i }

-- what the contract allows
abbrev exact_page : List ℕ → List Row → PageResult
exact_page bs lent = record { answer = page_number bs (length lent); rows = rows_after bs lent }

-- and there is one
pub page-met : (bs : List ℕ) (lent : List Row) → PageAllowed bs lent (exact_page bs lent)
page-met bs lent = record { answer = refl; rows = refl }

-- What is answered

module _ (bs : List ℕ) (lent : List Row) where
  abbrev many : ℕ
  many = length (live (from_bytes bs))

  abbrev z : Answer
  z = page_answer bs (length lent)

  -- its parts, in each of the three cases
  in-range : SFits w32 (value_of z) × (number_of z < 256)
  in-range =
      page-cases bs (length lent)
      (λ g. rw (answer-bad bs (length lent) g) (record { sfits = omega arith }, omega arith))
      (λ g l. rw (answer-few bs (length lent) g l) (record { sfits = omega arith }, omega arith))
      (λ g l. rw (answer-done bs (length lent) g l) (record { sfits = omega (arith, live-few (from_bytes bs)) }, omega arith))

  refusal : refusal_field (page_number bs (length lent)) ≡ number_of z
  refusal = refusal-back z (current_byte bs) in-range.0 (current-small bs)

  value : value_field (page_number bs (length lent)) ≡ of_z w32 (value_of z)
  value = value-back z (current_byte bs) in-range.0 (current-small bs)

  nothing_written : (w : Answer) → z ≡ w → number_of w ≢ 0 → (of_z w32 (value_of w) ≡ 0xffffffff) × (rows_after bs lent ≡ lent)
  unfolding rows_after
  nothing_written (Done v) e h = absurd (h refl)
  nothing_written (Refused n) e h = (refl, rw e)

  done : number_of z ≡ 0 → z ≡ Done (pos many)
  done h =
      page-cases bs (length lent)
      (λ g. let k : 15 ≡ 0 = rw (answer-bad bs (length lent) g) at h in absurd (omega (arith, k)))
      (λ g l. let k : 16 ≡ 0 = rw (answer-few bs (length lent) g l) at h in absurd (omega (arith, k)))
      (answer-done bs (length lent))

  -- where it isn't refused
  module _ (h : refusal_field (page_number bs (length lent)) ≡ 0) where
    counts : value_field (page_number bs (length lent)) ≡ many
    counts = value ∙ ap (λ (w : Answer). of_z w32 (value_of w)) (done (sym refusal ∙ h))

    as_rows : value_field (page_number bs (length lent)) ≡ length (rows (from_bytes bs))
    as_rows = counts ∙ sym (rows_long (from_bytes bs))

    all-rows : rows_after bs lent ≡ rows (from_bytes bs) ++ drop (length (rows (from_bytes bs))) lent
    unfolding rows_after
    all-rows = ap (λ (w : Answer). left_by w (rows (from_bytes bs)) lent) (done (sym refusal ∙ h))

  exact-told : PageTold bs lent (exact_page bs lent)
  exact-told =
      record {
        small = packed-small z (current_byte bs) in-range.0 (current-small bs) in-range.1;
        refused = λ h. let w = nothing_written z refl (λ e. h (refusal ∙ e)) in (value ∙ w.0, w.1);
        value = counts;
        shown = λ h. rw (as_rows h, all-rows h) (take-append_seam (rows (from_bytes bs)) _);
        behind = λ h. rw (as_rows h, all-rows h) (drop-append_seam (rows (from_bytes bs)) _);
        process = process-back z (current_byte bs) in-range.0 (current-small bs);
      }

  -- each number exactly when its reason holds and none before it
  exact-given : (n : ℕ) → n ≢ 0 → (refusal_field (exact_page bs lent).answer ≡ n) ↔ FirstOf (reasons_of_page bs lent) n
  exact-given n h =
      page-cases bs (length lent)
      (λ g. let e : refusal_field (exact_page bs lent).answer ≡ 15 = refusal ∙ ap number_of (answer-bad bs (length lent) g) in
      (λ w. inl (sym e ∙ w, g), ⊎_elim (λ w. e ∙ w.0) (λ w. absurd (w.0 g))))
      (λ g l. let e : refusal_field (exact_page bs lent).answer ≡ 16 = refusal ∙ ap number_of (answer-few bs (length lent) g l) in
      (λ w. inr (λ f. true≢false (sym g ∙ f), inl (sym e ∙ w, l)), ⊎_elim (λ w. absurd (true≢false (sym g ∙ w.1))) (λ w. ⊎_elim (λ v. e ∙ v.0) (λ v. absurd (v.0 l)) w.1)))
      (λ g l. let e : refusal_field (exact_page bs lent).answer ≡ 0 = refusal ∙ ap number_of (answer-done bs (length lent) g l) in
      (λ w. absurd (h (sym w ∙ e)), ⊎_elim (λ w. absurd (true≢false (sym g ∙ w.1))) (λ w. ⊎_elim (λ v. absurd (omega (arith, l, v.1))) (λ v. absurd v.1) w.1)))

-- Of every result that the contract allows

module _ (bs : List ℕ) (lent : List Row) (x : PageResult) (c : PageAllowed bs lent x) where
  pub page-told : PageTold bs lent x
  page-told = rw (c.answer, c.rows) (exact-told bs lent)

  pub page-given : (n : ℕ) → n ≢ 0 → (refusal_field x.answer ≡ n) ↔ FirstOf (reasons_of_page bs lent) n
  page-given n h = rw c.answer (exact-given bs lent n h)

  -- 32 rows are always enough
  pub page-enough : good bs ≡ true → process_limit ≤ length lent → refusal_field x.answer ≡ 0
  page-enough g l = rw c.answer (refusal bs lent ∙ ap number_of (answer-done bs (length lent) g (omega (arith, live-few (from_bytes bs)))))

  -- and one is written, since process 0 is live
  pub page-some : good bs ≡ true → refusal_field x.answer ≡ 0 → 1 ≤ value_field x.answer
  page-some g h = rw (page-told.value h) (live-some (good-sound bs g))

-- Of the bytes that any session leaves, begun with what `cottonsedge_boot` writes

module _ (k : Kernel) (d : Demand2 k) (bs : List ℕ) (l : length bs ≡ size) (requests : List Request) (hs : AllAsked requests) where
  abbrev bytes : List ℕ
  bytes = left k (booted bs) requests

  abbrev entries : List Entry
  entries = record_seen (exchanges k (booted bs) requests)

  module _ (lent : List Row) (x : PageResult) (c : PageAllowed bytes lent x) (h : refusal_field x.answer ≡ 0) where
    -- at each place of each queue the rows show who the record says is blocked there, and nobody else
    pub page-places : (s n : ℕ) → shown_at (shown_by x) s n ≡ at_place n (blocked entries s)
    page-places s n =
        ap (λ (rs : List Row). shown_at rs s n) ((page-told bytes lent x c).shown h)
        ∙ place-shown (good-sound bytes (left-good k d bs l requests hs)) s n
        ∙ ap (at_place n) (demand3-queue (demand3-of-bytes k d bs l requests hs) s)

    -- so each queue read by place is those still blocked, oldest first
    pub page-queues : (s : ℕ) → queue_shown (shown_by x) s ≡ blocked entries s
    page-queues s =
        ap (λ (rs : List Row). queue_shown rs s) ((page-told bytes lent x c).shown h)
        ∙ queue-shown (good-sound bytes (left-good k d bs l requests hs)) s
        ∙ demand3-queue (demand3-of-bytes k d bs l requests hs) s
