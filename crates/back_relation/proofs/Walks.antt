-- The walk of a transfer: a loop of a routine, with a turn for each record that it passes.
use Rattle.std.proofs.Common.{◌≡◌, inl, inr, ℕ, zero, suc, ◌+◌, ◌≤◌, Bool, true, false, List, [], ◌∷◌, length, Option, Some, refl, sym, ap, ◌∙◌, subst, arith}
use Rattle.std.specs.Prelude.{◌==◌, ◌||◌, not, if◌then◌else◌}
use Rattle.lang_meaning.specs.State.{Exit, ExitKind, block_exit, tagbody_exit, catch_exit, signal_exit, end_exit}
use Rattle.mid_code.specs.declared.program.MidProcedure.{MidProcedure}
use Rattle.mid_code.specs.State.{Registers, falls, ends, MidOutcome}
use Rattle.mid_code.specs.State.{MidState, MidOutcome}
use Rattle.mid_code.specs.Meaning.{Task}
use Rattle.mid_arena.proofs.Running.{StepsTo, and_then, none_left, load_falls, constant_falls, choose_first_falls, choose_second_falls, address_up, repeat_falls, repeat_turn, turning}
use Rattle.back_lowering.specs.ControlWords.{record_kind, record_outer, cleanup_kind}
use Rattle.back_lowering.specs.Steps.{load}
use Rattle.back_relation.specs.Worlds.{Standing, RecordRole, for_cleanup, for_exit, is_cleanup, IsIn, Chain, first_stop, record_bytes}
use Rattle.back_relation.specs.StackWords.{kind_number}
use Rattle.back_relation.specs.Walks.{Passed, walk_registers, costing, Walked, LawOfWalks}

kind_other : (x : Exit) → (kind_number (for_exit x) == cleanup_kind) ≡ false
kind_other x = by x.kind
  where
    by : (k : ExitKind) → (kind_number (for_exit (record { number = x.number; kind = k })) == cleanup_kind) ≡ false
    by block_exit = refl
    by tagbody_exit = refl
    by (catch_exit tag) = refl
    by (signal_exit c mark) = refl
    by end_exit = refl

abbrev head_or : Standing → List Standing → Standing
head_or r [] = r
head_or r (s ∷ ss) = s

module _ (procedures : List MidProcedure) (below : Task → MidState → MidOutcome) (t word : ℕ) (r2 : Option ℕ) (y : MidState) where
  abbrev regs_at : ℕ → Option ℕ → Registers
  regs_at a r4 = walk_registers t word r2 a r4

  abbrev WalkedTo : ℕ → ℕ → Option ℕ → ℕ → List Standing → List Standing → ℕ → Type 0
  WalkedTo n a r4 cost before after to = Walked procedures below n t word r2 y a r4 cost before after to

  -- the record is the one where the transfer stops
  stops : (n : ℕ) (r4 : Option ℕ) (cost : ℕ) (r : Standing) (rs : List Standing) → Passed y.arena r → ((r.address == t) || is_cleanup r.role) ≡ true → WalkedTo n r.address r4 cost (r ∷ rs) (r ∷ rs) r.address
  stops n r4 cost r rs p h = by (r.address == t) refl
    where
      kind_here : StepsTo (turning procedures below n) (load 4 3 record_kind) (regs_at r.address r4) (costing y cost) (ends falls (regs_at r.address (Some (kind_number r.role))) (costing y (cost + 8)))
      kind_here = load_falls refl (address_up r.address record_kind (let low = p.low in omega arith)) p.kind

      by : (b : Bool) → (r.address == t) ≡ b → WalkedTo n r.address r4 cost (r ∷ rs) (r ∷ rs) r.address
      by true same = record {
        last = Some cleanup_kind;
        total = cost + 8 + 12 + 6 + 2 + 12;
        run = (repeat_falls (and_then kind_here (and_then (choose_first_falls refl refl same (and_then constant_falls none_left)) none_left)) refl refl refl).same;
        within = omega arith;
      }
      by false same = record {
        last = Some (kind_number r.role);
        total = cost + 8 + 12 + 2 + 12;
        run = (repeat_falls (and_then kind_here (and_then (choose_second_falls refl refl same none_left) none_left)) refl refl (cleanup r.role (sym (ap (λ b. b || is_cleanup r.role) same) ∙ h))).same;
        within = omega arith;
      }
        where
          cleanup : (u : RecordRole) → is_cleanup u ≡ true → not (kind_number u == cleanup_kind) ≡ false
          cleanup for_cleanup e = refl
          cleanup (for_exit x) e = absurd (cc e)

  -- **the walk goes to the first record where the transfer stops**, with a turn for each that it passes
  pub walks :
      (rs : List Standing) (n above a : ℕ) (r4 : Option ℕ) (cost : ℕ) (to : Standing) (outer : List Standing) → Chain above a rs
      → ((r : Standing) → IsIn r rs → Passed y.arena r) → first_stop t rs ≡ to ∷ outer → length rs ≤ n → WalkedTo n a r4 cost rs (to ∷ outer) to.address
  walks [] n above a r4 cost to outer c p f h = absurd (cc f)
  walks (r ∷ rs) n above a r4 cost to outer c p f h =
      subst (λ b. WalkedTo n b r4 cost (r ∷ rs) (to ∷ outer) to.address) (sym c.0)
      (by n h ((r.address == t) || is_cleanup r.role) refl f
      (λ m cost' g. walks rs m (r.address + record_bytes) r.outer (Some (kind_number r.role)) cost' to outer c.2 (λ q i. p q (inr i)) g))
    where
      here : Passed y.arena r
      here = p r (inl refl)

      by : (n : ℕ) → length (r ∷ rs) ≤ n → (b : Bool) → ((r.address == t) || is_cleanup r.role) ≡ b → (if b then r ∷ rs else first_stop t rs) ≡ to ∷ outer
          → ((m cost' : ℕ) → first_stop t rs ≡ to ∷ outer → length rs ≤ m → WalkedTo m r.outer (Some (kind_number r.role)) cost' rs (to ∷ outer) to.address)
          → WalkedTo n r.address r4 cost (r ∷ rs) (to ∷ outer) to.address
      by n h true e g inner =
          let s = stops n r4 cost r rs here e in
          subst (λ (ss : List Standing). WalkedTo n r.address r4 cost (r ∷ rs) ss (head_or r ss).address) g s
      by zero h false e g inner = absurd (omega arith)
      by (suc n) h false e g inner =
          let rest = inner n (cost + 8 + 12 + 2 + 12 + 8 + 2) g (omega arith) in
          record {
            last = rest.last;
            total = rest.total;
            run =
                (repeat_turn procedures below n
                (and_then (load_falls refl (address_up r.address record_kind (let low = here.low in omega arith)) here.kind)
                (and_then (choose_second_falls refl refl (left_false (r.address == t) (is_cleanup r.role) e) none_left) none_left)) refl refl
                (passed r.role (right_false (r.address == t) (is_cleanup r.role) e))
                (and_then (load_falls refl (address_up r.address record_outer (let low = here.low in omega arith)) here.outer) none_left)
                (record { same = rest.run })).same;
            within = omega (arith, rest.within);
          }
        where
          left_false : (b c : Bool) → (b || c) ≡ false → b ≡ false
          left_false true c e = e
          left_false false c e = refl

          right_false : (b c : Bool) → (b || c) ≡ false → c ≡ false
          right_false true c e = absurd (cc e)
          right_false false c e = e

          passed : (u : RecordRole) → is_cleanup u ≡ false → not (kind_number u == cleanup_kind) ≡ true
          passed for_cleanup e = absurd (cc e)
          passed (for_exit x) e = ap not (kind_other x)

pub walks_law : LawOfWalks
walks_law procedures below target word r2 y rs n above a r4 cost to outer chain passed stop enough =
    walks procedures below target word r2 y rs n above a r4 cost to outer chain passed stop enough
