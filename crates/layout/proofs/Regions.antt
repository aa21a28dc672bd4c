-- What stands at each byte, part by part, and what a store does to it. Assumes nothing.
use Prim.Native.Nat.{◌%◌, ◌*◌, ◌+◌, ◌-◌, ◌/◌, ◌<◌, ◌≤◌, ℕ}
use native.Mathlib.Omega.{arith}
use mathlib.Core.Path.{◌∙◌, ◌≡◌, ap, subst, sym}
use mathlib.Core.List.{List}
use lib.ListN.{get_or, length, length-set, set}
use lib.Seq.{get_or-set_other, get_or-set_same}
use mir.Syntax.{w32}
use mir.Val.{of_z}
use borrow.Author.Tests.{le-ltb, lt-ltb}
use borrow.Rule.Slice.PartMut.{put_mid}
use Rattle.std.proofs.Common.{rules}
use Rattle.std.proofs.lemmas.List.{places}
use Rattle.std.proofs.lemmas.Slice.{overwrites}
use Rattle.tables.specs.declared.Tables.{Tables}
use Rattle.tables.specs.Limits.{process_limit, semaphore_limit}
use Rattle.tables.specs.Readers.{count_of, is_used, priority_of, state_of}
use Rattle.lists.specs.Numbers.{listed}
use Rattle.lists.proofs.Bools.{below?, either}
use Rattle.lists.proofs.NumberLaws.{listed-all, listed-length, listed_at}
use Rattle.layout.specs.Offsets.{counts_at, next_semaphore_at, order_at, priorities_at, size, states_at, used_at}
use Rattle.layout.specs.Bytes.{byte_of, state_byte, to_bytes, used_byte, word_byte}
use Rattle.layout.specs.Stands.{Held, Stands, store4}
use Rattle.layout.proofs.Words.{word-beside, word-here, word-long}

-- Each part: the tests of `byte_of` up to its own

module _ (t : Tables) where
  pub state-byte : (p i : ℕ) → p < process_limit → i ≡ states_at + p → byte_of t i ≡ state_byte (state_of t p)
  state-byte p i h e =
      let q : i - states_at ≡ p = omega arith in
      rw (lt-ltb i priorities_at (omega arith), q)

  pub priority-byte : (p i : ℕ) → p < process_limit → i ≡ priorities_at + p → byte_of t i ≡ priority_of t p
  priority-byte p i h e =
      let q : i - priorities_at ≡ p = omega arith in
      rw (le-ltb i priorities_at (omega arith), lt-ltb i used_at (omega arith), q)

  pub used-byte : (s i : ℕ) → s < semaphore_limit → i ≡ used_at + s → byte_of t i ≡ used_byte (is_used t s)
  used-byte s i h e =
      let q : i - used_at ≡ s = omega arith in
      rw (le-ltb i priorities_at (omega arith), le-ltb i used_at (omega arith), lt-ltb i counts_at (omega arith), q)

  pub count-byte : (s d i : ℕ) → s < semaphore_limit → d < 4 → i ≡ counts_at + s * 4 + d → byte_of t i ≡ word_byte (of_z w32 (count_of t s)) d
  count-byte s d i h k e =
      let q : (i - counts_at) / 4 ≡ s = omega arith in
      let r : (i - counts_at) % 4 ≡ d = omega arith in
      rw (le-ltb i priorities_at (omega arith), le-ltb i used_at (omega arith), le-ltb i counts_at (omega arith), lt-ltb i order_at (omega arith), q, r)

  pub place_byte : (j i : ℕ) → j < process_limit → i ≡ order_at + j → byte_of t i ≡ get_or t.order j 0
  place_byte j i h e =
      let q : i - order_at ≡ j = omega arith in
      rw (le-ltb i priorities_at (omega arith), le-ltb i used_at (omega arith), le-ltb i counts_at (omega arith), le-ltb i order_at (omega arith), lt-ltb i next_semaphore_at (omega arith), q)

-- Bytes that are t become bytes that are t', where the two differ in nothing but what is stored: these two laws carry every writer

-- one of the n bytes from k on, or elsewhere
within? : {P : Type 0} (i k n : ℕ) → ((d : ℕ) → d < n → i ≡ k + d → P) → (((d : ℕ) → d < n → i ≡ k + d → ⊥) → P) → P
within? i k n f g =
    below? i k (λ a. g (λ d h e. omega arith))
    (λ a. below? i (k + n) (λ b. f (i - k) (omega arith) (omega arith)) (λ b. g (λ d h e. omega arith)))

module _ (t t' : Tables) (bs : List ℕ) (st : Stands t bs) (held : Held t') where
  pub put_byte : (j v : ℕ) → j < size → byte_of t' j ≡ v → ((i : ℕ) → (i ≡ j → ⊥) → byte_of t i ≡ byte_of t' i) → Stands t' (set bs j v)
  put_byte j v h e same =
      let l = st.long in
      record {
        held = held;
        long = length-set bs j v ∙ l;
        bytes = λ i hi. either i j
            (λ q. rw q (get_or-set_same bs j v 0 (omega arith) ∙ sym e))
            (λ q. get_or-set_other bs j i v 0 q ∙ st.bytes i hi ∙ same i q);
      }

  pub put_word : (k n : ℕ) → k + 4 ≤ size → ((d : ℕ) → d < 4 → byte_of t' (k + d) ≡ word_byte n d) → ((i : ℕ) → ((d : ℕ) → d < 4 → i ≡ k + d → ⊥) → byte_of t i ≡ byte_of t' i) → Stands t' (store4 bs k n)
  put_word k n h e same =
      let l = st.long in
      record {
        held = held;
        long = word-long bs k n ∙ l;
        bytes = λ i hi. within? i k 4
            (λ d hd q. rw q (word-here bs k n (omega arith) d hd ∙ sym (e d hd)))
            (λ away. word-beside bs k n i away ∙ st.bytes i hi ∙ same i away);
      }

-- Bytes with a part written, those from a on, k of them

module _ (bs ys : List ℕ) (a k : ℕ) (within : a + k ≤ length bs) (e : length ys ≡ k) where
  pub mid-length : length (put_mid a k bs ys) ≡ length bs
  mid-length = search (rules, overwrites)

  pub before-mid : (i : ℕ) → i < a → get_or (put_mid a k bs ys) i 0 ≡ get_or bs i 0
  before-mid i h = search (rules, places)

  pub in-mid : (i : ℕ) → a ≤ i → i < a + k → get_or (put_mid a k bs ys) i 0 ≡ get_or ys (i - a) 0
  in-mid i h g = search (rules, places)

  pub behind-mid : (i : ℕ) → a + k ≤ i → get_or (put_mid a k bs ys) i 0 ≡ get_or bs i 0
  behind-mid i h = search (rules, places)

-- Bytes written from the front: the first k are those of the tables

module _ (t : Tables) where
  pub record Begins (k : ℕ) (bs : List ℕ) : Type 0 where
    pub long : length bs ≡ size
    pub same : (i : ℕ) → i < k → get_or bs i 0 ≡ byte_of t i

  pub begins-part : (a k : ℕ) (bs ys : List ℕ) → Begins a bs → a + k ≤ size → ys ≡ listed 0 k (λ i. byte_of t (a + i)) → Begins (a + k) (put_mid a k bs ys)
  begins-part a k bs ys b h e =
      let f : ℕ → ℕ = λ i. byte_of t (a + i) in
      let within : a + k ≤ length bs = omega (arith, b.long) in
      let l : length ys ≡ k = ap length e ∙ listed-length f 0 k in
      record {
        long = mid-length bs ys a k within l ∙ b.long;
        same = λ i q. below? i a
            (λ p. before-mid bs ys a k within l i p ∙ b.same i p)
            (λ p. let n : a + (i - a) ≡ i = omega arith in
            in-mid bs ys a k within l i p q ∙ ap (λ (z : List ℕ). get_or z (i - a) 0) e ∙ listed_at f k (i - a) 0 (omega arith) ∙ ap (byte_of t) n);
      }

  pub begins-byte : (a v : ℕ) (bs : List ℕ) → Begins a bs → a < size → v ≡ byte_of t a → Begins (a + 1) (set bs a v)
  begins-byte a v bs b h e =
      record {
        long = length-set bs a v ∙ b.long;
        same = λ i q. either i a
            (λ p. rw p (get_or-set_same bs a v 0 (omega (arith, b.long)) ∙ e))
            (λ p. get_or-set_other bs a i v 0 p ∙ b.same i (omega arith));
      }

  pub begins-all : (bs : List ℕ) → Begins size bs → bs ≡ to_bytes t
  unfolding to_bytes
  begins-all bs b = sym (listed-all 0 (byte_of t) size bs b.long (λ i h. sym (b.same i h)))

-- One entry of a table after a store

module _ {A : Type 0} (l : List A) (i : ℕ) (x d : A) (h : i < length l) where
  -- what holds of the new one, and of the old ones, holds of all
  pub entry : (P : A → Type 0) → P x → (k : ℕ) → P (get_or l k d) → P (get_or (set l i x) k d)
  entry P y k old =
      either k i
      (λ q. subst (λ (z : ℕ). P (get_or (set l i x) z d)) (sym q) (subst P (sym (get_or-set_same l i x d h)) y))
      (λ q. subst P (sym (get_or-set_other l i k x d q)) old)

  -- what the new one does not change
  pub kept : {B : Type 0} (f : A → B) (k : ℕ) → (k ≡ i → f x ≡ f (get_or l i d)) → f (get_or l k d) ≡ f (get_or (set l i x) k d)
  kept f k e =
      either k i
      (λ q. rw q (sym (e q) ∙ ap f (sym (get_or-set_same l i x d h))))
      (λ q. ap f (sym (get_or-set_other l i k x d q)))

  pub here : {B : Type 0} (f : A → B) → f (get_or (set l i x) i d) ≡ f x
  here f = ap f (get_or-set_same l i x d h)
