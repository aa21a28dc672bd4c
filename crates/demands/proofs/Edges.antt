-- The table of edges, of the bytes, for every kernel that meets demand 2. Assumes nothing.
use Prim.Native.Nat.{ℕ}
use mathlib.Core.Bool.{true}
use mathlib.Core.List.{List, [], ◌∷◌, reverse}
use mathlib.Core.Path.{◌∙◌, ◌≡◌, refl}
use lib.ListN.{length}
use mir.Syntax.{w32}
use mir.ValLaws.{to_z-of_z}
use Rattle.layout.specs.Bytes.{from_bytes}
use Rattle.layout.specs.Offsets.{size}
use Rattle.lists.specs.Lists.{Each}
use Rattle.promises.specs.Edges.{Edge, edges, sight_of}
use Rattle.promises.specs.Record.{Request, after, made}
use Rattle.rules.specs.Answers.{value_of}
use Rattle.tables.specs.Boot.{boot}
use Rattle.cottonsedge.specs.Entries.{booted}
use Rattle.promises.proofs.Edges.{edges-hold}
use Rattle.promises.proofs.Runs.{boot-run-fits, boot-run-sound}
use Rattle.cottonsedge.proofs.BootBytes.{boot-bytes}
use Rattle.cottonsedge.proofs.Calls.{value-fits}
use Rattle.demands.specs.Demands.{Demand2, Kernel}
use Rattle.demands.specs.Edges.{sight_of_bytes}
use Rattle.demands.specs.Sessions.{AllAsked, given, left}
use Rattle.demands.proofs.Asked.{all_asked, asked-fit, tested}
use Rattle.demands.proofs.Sessions.{demand2-steps, left-tables, steps-process, steps-refusal, steps-value}

-- the requests of a line, the latest first
abbrev requests_of : Edge → List Request
requests_of e = e.request ∷ reverse e.before

edges-asked : Each (λ e. all_asked (requests_of e) ≡ true) edges
edges-asked = (refl, (refl, (refl, (refl, (refl, (refl, (refl, (refl, (refl, (refl, (refl, (refl, (refl, (refl, (refl, (refl, (refl, (refl, (refl, (refl, (refl, (refl, (refl, (refl, (refl, (refl, tt))))))))))))))))))))))))))

-- Of the bytes the same is seen as of the tables

module _ (k : Kernel) (d : Demand2 k) (bs : List ℕ) (l : length bs ≡ size) where
  module _ (q : Request) (before : List Request) (h : AllAsked (q ∷ before)) where
    left-then : from_bytes (given k (booted bs) before q).bytes ≡ (made (after boot before) q).tables
    unfolding left after
    left-then = left-tables k d bs l (q ∷ before) h

  same-sight : (e : Edge) → AllAsked (requests_of e) → sight_of_bytes k (booted bs) e ≡ sight_of e
  same-sight e h =
      let q = e.request in
      let before = reverse e.before in
      let f = asked-fit (requests_of e) h in
      let s = demand2-steps k d (requests_of e) h in
      rw (left-tables k d bs l before h.1, left-then q before h, boot-bytes bs l, steps-refusal k q before f s, steps-value k q before f s, steps-process k q before f s)
      (rw (to_z-of_z w32 (value_of (made (after boot before) q).answer) (value-fits (boot-run-sound before) (boot-run-fits before f.1) q.number q.a q.b f.0.a f.0.b)))

  each : (es : List Edge) → Each (λ e. all_asked (requests_of e) ≡ true) es → Each (λ e. sight_of e ≡ e.sight) es → Each (λ e. sight_of_bytes k (booted bs) e ≡ e.sight) es
  each [] a h = tt
  each (e ∷ es) (a, rest) (h, hs) = (same-sight e (tested (requests_of e) a) ∙ h, each es rest hs)

  pub edges-of-bytes : Each (λ e. sight_of_bytes k (booted bs) e ≡ e.sight) edges
  edges-of-bytes = each edges edges-asked edges-hold
