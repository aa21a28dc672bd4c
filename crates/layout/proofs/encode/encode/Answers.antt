-- Each field is told by the calls that made its bytes. Assumes nothing.
use Rattle.std.proofs.Common.{rules, length, ◌≡◌, ◌∙◌, ◌<◌, ◌≤◌, ◌+◌, ◌*◌, ◌-◌, ◌/◌, ℕ, arith, subst}
use Rattle.std.specs.Int.{w32}
use mir.Val.{SFits}
use Rattle.tables.specs.Readers.{count_of}
use Rattle.tables.specs.Limits.{process_limit, semaphore_limit}
use Rattle.lists.proofs.Bools.{below?}
use Rattle.lists.proofs.Made.{listed-made, made-each}
use Rattle.layout.specs.Bytes.{byte_of}
use Rattle.layout.specs.Offsets.{counts_at, next_process_at, next_semaphore_at, order_at, priorities_at, states_at, used_at}
use Rattle.layout.proofs.Image.{past_fits, unmapped}
use Rattle.layout.proofs.Regions.{Begins, begins-all, begins-byte, begins-part}
use Rattle.layout.proofs.encode.encode.Goals as goal

long : (c : goal.After-byte_of-2) → length c.args.t.semaphores ≡ semaphore_limit
long c = search (rules, unmapped)

fits : (c : goal.After-byte_of-2) (s : ℕ) → s < semaphore_limit → SFits w32 (count_of c.args.t s)
fits c s l =
    let t = c.args.t in
    let at = made-each (λ (i x : ℕ). counts_at ≤ counts_at + i → counts_at + i < order_at → SFits w32 (count_of t ((counts_at + i - counts_at) / 4))) 0 (λ i x t h. search rules) c.from_fn-counts.ensures.items (s * 4) (omega arith) (omega arith) (omega arith) in
    let e : (counts_at + s * 4 - counts_at) / 4 ≡ s = omega arith in
    subst (λ (n : ℕ). SFits w32 (count_of t n)) e at

pub returns : goal.returns
returns c =
    let t = c.args.t in
    let part : ℕ → ℕ → ℕ = λ a i. byte_of t (a + i) in
    let states = listed-made (part states_at) 0 (λ i x t h. search rules) c.from_fn-states.ensures.items in
    let priorities = listed-made (part priorities_at) 0 (λ i x t h. search rules) c.from_fn-priorities.ensures.items in
    let used = listed-made (part used_at) 0 (λ i x t h. search rules) c.from_fn-used.ensures.items in
    let counts = listed-made (part counts_at) 0 (λ i x t h. search rules) c.from_fn-counts.ensures.items in
    let order = listed-made (part order_at) 0 (λ i x t h. search rules) c.from_fn-order.ensures.items in
    let none : Begins t states_at c.args.bytes.now = record { long = c.told-bytes; same = λ i h. absurd (omega arith) } in
    let b₁ = begins-part t states_at process_limit _ _ none (omega arith) (c.copy_from_slice.ensures.after ∙ states) in
    let b₂ = begins-part t priorities_at process_limit _ _ b₁ (omega arith) (c.copy_from_slice-2.ensures.after ∙ priorities) in
    let b₃ = begins-part t used_at semaphore_limit _ _ b₂ (omega arith) (c.copy_from_slice-3.ensures.after ∙ used) in
    let b₄ = begins-part t counts_at (4 * semaphore_limit) _ _ b₃ (omega arith) (c.copy_from_slice-4.ensures.after ∙ counts) in
    let b₅ = begins-part t order_at process_limit _ _ b₄ (omega arith) (c.copy_from_slice-5.ensures.after ∙ order) in
    let b₆ = begins-byte t next_semaphore_at _ _ b₅ (omega arith) c.byte_of.ensures.byte in
    let b₇ = begins-byte t next_process_at _ _ b₆ (omega arith) c.byte_of-2.ensures.byte in
    (begins-all t _ b₇, λ s. below? s semaphore_limit (fits c s) (past_fits t (long c) s))
