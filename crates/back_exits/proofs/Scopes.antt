-- The exits that a form with a cleanup may leave by, and its cleanup.
use Rattle.std.proofs.Common.{◌≡◌, ℕ, zero, suc, List, [], ◌∷◌, length, map, Some, refl, sym, ap, ◌∙◌, subst}
use Rattle.std.specs.Prelude.{slice_get}
use Rattle.lang_meaning.specs.declared.scope.ExitForm.{ExitForm}
use Rattle.lang_meaning.specs.State.{Exit}
use Rattle.flat_language.specs.FlatState.{FlatState}
use Rattle.mid_code.specs.Arena.{word_in}
use Rattle.mid_code.specs.State.{Registers, register, MidState}
use Rattle.back_lowering.specs.Scope.{behind_cleanup}
use Rattle.back_lowering.specs.declared.scope.OwnExit.{OwnExit}
use Rattle.back_lowering.specs.declared.scope.Reach.{Reach}
use Rattle.back_lowering.specs.declared.scope.Reach.TheVariants.{BySearch}
use Rattle.back_lowering.specs.declared.scope.Scope.{Scope}
use Rattle.back_relation.specs.Setting.{Setting}
use Rattle.back_relation.specs.Worlds.{World, for_cleanup, Standing}
use Rattle.back_relation.specs.Activation.{IsOwn, ScopeStands, ExitReached}
use Rattle.back_relation.specs.Starts.{Start}
use Rattle.back_relation.proofs.Reaches.{reached_under_cleanup}
use Rattle.back_exits.specs.Inside.{ExitsStand, record_inside, LaidAt}

module _ (g : Reach → Reach) where
  abbrev pub reaching : OwnExit → OwnExit
  reaching x = record x { reach = g x.reach }

  pub map_count : (xs : List OwnExit) → length (map reaching xs) ≡ length xs
  map_count [] = refl
  map_count (x ∷ xs) = ap suc (map_count xs)

  pub map_found : (xs : List OwnExit) (n : ℕ) (o : OwnExit) → slice_get (map reaching xs) n ≡ Some o → (x : OwnExit) × (slice_get xs n ≡ Some x) × (reaching x ≡ o)
  map_found [] n o h = absurd (cc h)
  map_found (x ∷ xs) zero o h = let same : reaching x ≡ o = cc h in (x, refl, same)
  map_found (x ∷ xs) (suc n) o h = map_found xs n o h

  pub scope_mapped : (s : Scope) (d : ℕ) → ScopeStands s d → ScopeStands (record s { exits = map reaching s.exits }) d
  scope_mapped s d t = record {
    slots_below = t.slots_below;
    slots_apart = t.slots_apart;
    exits = λ n o h.
        let m = map_found s.exits n o h in
        subst (λ (u : OwnExit). IsOwn s d u.serial × IsOwn s d u.record_register) m.2 (t.exits n m.0 m.1);
    self = t.self;
    method = t.method;
    site = t.site;
  }

-- in a cleanup all exits are searched for
pub searched_exits :
    {own : List OwnExit} {count : ℕ} {forms : List ExitForm} {numbers : List ℕ} {rs valid rs' valid' : List Standing} {exits exits' : List Exit} {w : World} {regs : Registers}
    → ExitsStand own count forms numbers rs valid exits w regs → ExitsStand (map (reaching (λ r. BySearch)) own) count forms numbers rs' valid' exits' w regs
searched_exits {own} {count} {forms} {numbers} {rs} {valid} {rs'} {valid'} {exits} {exits'} {w} {regs} x = record {
  exit_count = map_count (λ r. BySearch) own ∙ x.exit_count;
  flat_count = x.flat_count;
  reached = λ n o h.
      let m = map_found (λ r. BySearch) own n o h in
      let old = x.reached n m.0 m.1 in
      subst (λ (u : OwnExit). (e : ℕ) × (slice_get numbers n ≡ Some e) × (register u.serial regs ≡ Some e) × ExitReached u.reach rs' valid' exits' e (register u.record_register regs)) m.2
      (old.0, old.1, old.2, tt);
  exit_forms = x.exit_forms;
}

-- inside the record of a cleanup they are left by a transfer at most
pub exits_inside :
    (setting : Setting) (a : Start setting) {units cost link : ℕ} {w : World} {z : FlatState} {regs : Registers} {y : MidState} → LaidAt setting a units cost for_cleanup link w z regs y
    → ExitsStand (map (reaching behind_cleanup) a.s.code.exits) a.s.flat.exits a.s.exits.own a.env.exits (record_inside setting a for_cleanup ∷ a.rs) a.valid a.around.exits w regs
exits_inside setting a {units} {cost} {link} {w} {z} {regs} {y} laid =
    let t = a.begins.activation in
    let new : Standing = record_inside setting a for_cleanup in
    record {
      exit_count = map_count behind_cleanup a.s.code.exits ∙ t.exit_count;
      flat_count = t.flat_count;
      reached = λ n o h.
          let m = map_found behind_cleanup a.s.code.exits n o h in
          let old = t.exits n m.0 m.1 in
          let own = a.begins.scope.exits n m.0 m.1 in
          let x : OwnExit = m.0 in
          subst (λ (u : OwnExit). (e : ℕ) × (slice_get a.env.exits n ≡ Some e) × (register u.serial regs ≡ Some e)
          × ExitReached u.reach (new ∷ a.rs) a.valid a.around.exits e (register u.record_register regs)) m.2 (
            old.0,
            old.1,
            ap word_in (laid.same x.serial own.0.0) ∙ old.2,
            subst (λ r. ExitReached (behind_cleanup x.reach) (new ∷ a.rs) a.valid a.around.exits old.0 r) (sym (ap word_in (laid.same x.record_register own.1.0)))
                (reached_under_cleanup a.rs a.valid a.around.exits new x.reach old.0 (register x.record_register a.regs) old.3),
          );
      exit_forms = λ n e f. laid.world.later.exit_forms e (slice_get a.s.exits.own n) (t.exit_forms n e f);
    }
