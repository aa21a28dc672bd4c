-- The null process takes no permits, of the bytes and of what the firmware sees. Assumes nothing.
use Prim.Native.Nat.{ℕ}
use mathlib.Core.Bool.{false, true}
use mathlib.Core.List.{List}
use mathlib.Core.Path.{◌∙◌, ◌≡◌, ap, sym}
use lib.ListN.{length}
use lib.Signed.{◌≤ℤ◌, ≤ℤ_refl}
use Rattle.cottonsedge.specs.Entries.{booted, bytes_after}
use Rattle.layout.specs.Bytes.{from_bytes}
use Rattle.layout.specs.Offsets.{size}
use Rattle.promises.specs.Record.{NoNullWait, Request, made}
use Rattle.rules.specs.Enter.{call_of}
use Rattle.soundness.specs.Good.{good}
use Rattle.tables.specs.Boot.{boot}
use Rattle.tables.specs.Readers.{count_of, current_of}
use Rattle.tables.specs.Sound.{Sound}
use Rattle.tables.specs.declared.Tables.{Tables}
use Rattle.cottonsedge.proofs.Calls.{back, call-bytes}
use Rattle.cottonsedge.proofs.Entry.{refused-bytes}
use Rattle.lists.proofs.Bools.{split}
use Rattle.promises.proofs.Permits.{no-null-wait}
use Rattle.rules.proofs.Fits.{fits-numbered}
use Rattle.rules.proofs.Kept.{sound-numbered}
use Rattle.rules.proofs.Refusals.{numbered-cases}
use Rattle.telling.proofs.Told.{null-lowers-none}
use Rattle.demands.specs.Demands.{Allowed, Asked, Bytes, Demand2, Kernel, Result}
use Rattle.demands.specs.Permits.{GoesOn}
use Rattle.demands.specs.Sessions.{AllAsked, exchanges, record_seen}
use Rattle.demands.proofs.Lent.{lent}
use Rattle.demands.proofs.Sessions.{seen-record}

-- a request of process 0 on sound tables
made-lowers-none : {t : Tables} → Sound t → current_of t ≡ 0 → (q : Request) (s : ℕ) → GoesOn q s → count_of t s ≤ℤ count_of (made t q).tables s
made-lowers-none {t} S z q s g =
    numbered-cases t (λ o. count_of t s ≤ℤ count_of o.tables s) (λ m. ≤ℤ_refl (count_of t s)) q.number q.a q.b
    (λ f e. null-lowers-none S z (call_of f q.a q.b) s (g f e))

module _ (bs : List ℕ) (q : Request) (byte : Bytes bs) (k : Asked q) (z : current_of (from_bytes bs) ≡ 0) (s : ℕ) (g : GoesOn q s) where
  abbrev LowersNone : Type 0
  LowersNone = count_of (from_bytes bs) s ≤ℤ count_of (from_bytes (bytes_after bs q.number q.a q.b)) s

  sound-lowers-none : good bs ≡ true → LowersNone
  sound-lowers-none h =
      let n = q.number in
      let a = q.a in
      let b = q.b in
      let l = lent bs byte h in
      let S = l.sound in
      let F = l.fits in
      let left : from_bytes (bytes_after bs n a b) ≡ (made (from_bytes bs) q).tables =
      ap (λ (x : List ℕ). from_bytes (bytes_after x n a b)) (sym l.back) ∙ ap from_bytes (call-bytes S F n a b) ∙ back (sound-numbered S n a b) (fits-numbered S F n a b k.arguments.a k.arguments.b).0 in
      rw left (made-lowers-none S z q s g)

  unsound-lowers-none : good bs ≡ false → LowersNone
  unsound-lowers-none h = rw (← refused-bytes bs q.number q.a q.b h byte) (≤ℤ_refl (count_of (from_bytes bs) s))

-- no call by process 0 lowers a count: of all bytes, and of every result that the contract allows
pub null-lowers-none-of-bytes : (bs : List ℕ) (q : Request) (x : Result) → Bytes bs → Asked q → Allowed bs q x → current_of (from_bytes bs) ≡ 0 → (s : ℕ) → GoesOn q s
    → count_of (from_bytes bs) s ≤ℤ count_of (from_bytes x.bytes) s
null-lowers-none-of-bytes bs q x byte k c z s g = rw c.bytes (split (good bs) (sound-lowers-none bs q byte k z s g) (unsound-lowers-none bs q byte k z s g))

-- in the record of any session no accepted wait has caller 0
pub no-null-wait-of-bytes : (k : Kernel) → Demand2 k → (bs : List ℕ) → length bs ≡ size → (requests : List Request) → AllAsked requests → NoNullWait (record_seen (exchanges k (booted bs) requests))
no-null-wait-of-bytes k d bs l requests hs = rw (seen-record k d bs l requests hs) (no-null-wait boot requests)
