-- The exits of an activation inside a record with one exit more: those outside may be left as before, and the new one at once.
use Rattle.std.proofs.Common.{◌≡◌, ◌⊎◌, inl, inr, ℕ, zero, suc, ◌+◌, ◌<◌, ◌≤◌, false, List, [], ◌∷◌, ◌++◌, length, Some, refl, sym, ap, ◌∙◌, subst, arith, length-append}
use Rattle.std.specs.Prelude.{◌||◌, if◌then◌else◌, slice_get}
use Rattle.std.proofs.lemmas.Bool.{eq-eqb}
use Rattle.std.proofs.lemmas.Option.{slice_get_within}
use Rattle.base.specs.Names.{slice_get-front, slice_get-behind, slice_get-push}
use Rattle.lang_meaning.specs.declared.scope.ExitForm.{ExitForm}
use Rattle.lang_meaning.specs.State.{Exit}
use Rattle.flat_language.specs.FlatState.{FlatState}
use Rattle.mid_code.specs.Arena.{word_in}
use Rattle.mid_code.specs.State.{Registers, register, MidState}
use Rattle.back_lowering.specs.declared.scope.OwnExit.{OwnExit}
use Rattle.back_lowering.specs.declared.scope.Reach.TheVariants.{AtOnce}
use Rattle.back_exits.specs.Known.{FormsKnown}
use Rattle.back_relation.specs.Setting.{Setting}
use Rattle.back_relation.specs.Worlds.{World, for_exit, Standing, IsIn, record_of_exit, first_stop}
use Rattle.back_relation.specs.Activation.{IsOwn, ScopeStands, ExitReached}
use Rattle.back_relation.specs.Activation.{with_exit as form_with_exit}
use Rattle.back_relation.specs.Starts.{Start}
use Rattle.back_relation.proofs.Reaches.{reached_under_exit}
use Rattle.back_relation.proofs.Starts.{scope_later}
use Rattle.back_exits.specs.Inside.{ExitsStand, around_at, address_inside, record_inside, LaidAt}
use Rattle.back_exits.proofs.Inside.{at_to}

pub get_front : {X : Type 0} (xs ys : List X) (i : ℕ) → i < length xs → slice_get (xs ++ ys) i ≡ slice_get xs i
get_front [] ys i h = absurd (omega (arith, h))
get_front (x ∷ xs) ys zero h = refl
get_front (x ∷ xs) ys (suc i) h = get_front xs ys i (omega (arith, h))

module _ (setting : Setting) (a : Start setting) {units cost : ℕ} {x : Exit} {w : World} {z : FlatState} {regs : Registers} {y : MidState}
    (laid : LaidAt setting a units cost (for_exit x) (address_inside setting a) w z regs y) where
  abbrev new : Standing
  new = record_inside setting a (for_exit x)

  apart : (r : Standing) → IsIn r a.rs → new.address ≡ r.address → ⊥
  apart r i e =
      let low = ((around_at setting a).records r i).low in
      let to = at_to setting a laid in
      omega (arith, e, low, to)

  -- an exit outside has an older number
  pub older : x.number ≡ a.z.state.exits → (i e : ℕ) → slice_get a.env.exits i ≡ Some e → x.number ≡ e → ⊥
  older number i e f same =
      let within = slice_get_within a.w.exit_forms e _ (a.begins.activation.exit_forms i e f) in
      let count = a.begins.call.things.exit_forms in
      omega (arith, number, same, within, count)

  -- an exit outside, inside
  outer_reached :
      (elder : (i e : ℕ) → slice_get a.env.exits i ≡ Some e → x.number ≡ e → ⊥) (more : List ℕ) (i : ℕ) (o : OwnExit) → slice_get a.s.code.exits i ≡ Some o
      → (e : ℕ) × (slice_get (a.env.exits ++ more) i ≡ Some e) × (register o.serial regs ≡ Some e)
      × ExitReached o.reach (new ∷ a.rs) (new ∷ a.valid) (x ∷ a.around.exits) e (register o.record_register regs)
  outer_reached elder more i o h =
      let old = a.begins.activation.exits i o h in
      let own = a.begins.scope.exits i o h in (
        old.0,
        slice_get-front a.env.exits more i old.0 old.1,
        ap word_in (laid.same o.serial own.0.0) ∙ old.2,
        subst (λ u. ExitReached o.reach (new ∷ a.rs) (new ∷ a.valid) (x ∷ a.around.exits) old.0 u) (sym (ap word_in (laid.same o.record_register own.1.0)))
            (reached_under_exit a.rs a.valid a.around.exits new x o.reach old.0 (register o.record_register a.regs) refl (elder i old.0 old.1) apart old.3),
      )

  -- **under the record of an exit that no form of the activation names**
  pub same_exits : x.number ≡ a.z.state.exits → ExitsStand a.s.code.exits a.s.flat.exits a.s.exits.own a.env.exits (new ∷ a.rs) (new ∷ a.valid) (x ∷ a.around.exits) w regs
  same_exits number =
      let t = a.begins.activation in
      record {
        exit_count = t.exit_count;
        flat_count = t.flat_count;
        reached = λ i o h.
            let old = t.exits i o h in
            let own = a.begins.scope.exits i o h in (
              old.0,
              old.1,
              ap word_in (laid.same o.serial own.0.0) ∙ old.2,
              subst (λ u. ExitReached o.reach (new ∷ a.rs) (new ∷ a.valid) (x ∷ a.around.exits) old.0 u) (sym (ap word_in (laid.same o.record_register own.1.0)))
                  (reached_under_exit a.rs a.valid a.around.exits new x o.reach old.0 (register o.record_register a.regs) refl (older number i old.0 old.1) apart old.3),
            );
        exit_forms = λ i e f. laid.world.later.exit_forms e (slice_get a.s.exits.own i) (t.exit_forms i e f);
      }

  -- **with an own exit more**, whose serial number is in a register
  module _ (form : ExitForm) (known : FormsKnown a.s) (elder : (i e : ℕ) → slice_get a.env.exits i ≡ Some e → x.number ≡ e → ⊥) (serial : register a.d regs ≡ Some x.number)
      (made : slice_get w.exit_forms x.number ≡ Some (Some form)) where
    abbrev added : OwnExit
    added = record { serial = a.d; record_register = a.d + 1; reach = AtOnce }

    added_reached : ExitReached AtOnce (new ∷ a.rs) (new ∷ a.valid) (x ∷ a.around.exits) x.number (register (a.d + 1) regs)
    added_reached = (
      new,
      a.rs,
      laid.address_held,
      ap (λ b. if b then Some new else record_of_exit x.number a.around.exits a.valid) (eq-eqb x.number x.number refl),
      ap (λ b. if b || false then new ∷ a.rs else first_stop new.address a.rs) (eq-eqb new.address new.address refl),
    )

    count : length a.env.exits ≡ length a.s.code.exits
    count = sym a.begins.activation.exit_count

    reached_one :
        (i : ℕ) (o : OwnExit) → (slice_get a.s.code.exits i ≡ Some o) ⊎ ((i ≡ length a.s.code.exits) × (added ≡ o))
        → (e : ℕ) × (slice_get (a.env.exits ++ x.number ∷ []) i ≡ Some e) × (register o.serial regs ≡ Some e)
        × ExitReached o.reach (new ∷ a.rs) (new ∷ a.valid) (x ∷ a.around.exits) e (register o.record_register regs)
    reached_one i o (inl h) = outer_reached elder (x.number ∷ []) i o h
    reached_one i o (inr h) =
        subst (λ (u : OwnExit). (e : ℕ) × (slice_get (a.env.exits ++ x.number ∷ []) i ≡ Some e) × (register u.serial regs ≡ Some e)
        × ExitReached u.reach (new ∷ a.rs) (new ∷ a.valid) (x ∷ a.around.exits) e (register u.record_register regs)) h.1
        (x.number, ap (slice_get (a.env.exits ++ x.number ∷ [])) (h.0 ∙ sym count) ∙ slice_get-behind a.env.exits x.number, serial, added_reached)

    formed : (i e : ℕ) → (slice_get a.env.exits i ≡ Some e) ⊎ ((i ≡ length a.env.exits) × (x.number ≡ e)) → slice_get w.exit_forms e ≡ Some (slice_get (a.s.exits.own ++ form ∷ []) i)
    formed i e (inl h) =
        let within = slice_get_within a.env.exits i e h in
        let flat = a.begins.activation.flat_count in
        laid.world.later.exit_forms e (slice_get a.s.exits.own i) (a.begins.activation.exit_forms i e h)
        ∙ ap Some (sym (get_front a.s.exits.own (form ∷ []) i (omega (arith, within, flat, known))))
    formed i e (inr h) =
        let place : i ≡ length a.s.exits.own = h.0 ∙ sym a.begins.activation.flat_count ∙ sym known in
        ap (slice_get w.exit_forms) (sym h.1) ∙ made ∙ ap Some (sym (ap (slice_get (a.s.exits.own ++ form ∷ [])) place ∙ slice_get-behind a.s.exits.own form))

    pub more_exits :
        ExitsStand (a.s.code.exits ++ added ∷ []) (a.s.flat.exits + 1) (a.s.exits.own ++ form ∷ []) (a.env.exits ++ x.number ∷ []) (new ∷ a.rs) (new ∷ a.valid) (x ∷ a.around.exits) w regs
    more_exits = record {
      exit_count = length-append a.s.code.exits (added ∷ []) ∙ ap (λ n. n + 1) a.begins.activation.exit_count ∙ sym (length-append a.env.exits (x.number ∷ []));
      flat_count = ap (λ n. n + 1) a.begins.activation.flat_count ∙ sym (length-append a.env.exits (x.number ∷ []));
      reached = λ i o h. reached_one i o (slice_get-push a.s.code.exits added i o h);
      exit_forms = λ i e h. formed i e (slice_get-push a.env.exits x.number i e h);
    }

-- the scope with an own exit more
pub scope_with_exit : {setting : Setting} (a : Start setting) (form : ExitForm) (n : ℕ) → 2 ≤ n → ScopeStands (form_with_exit form a.d (a.d + 1) a.s).code (a.d + n)
scope_with_exit a form n big =
    let t = scope_later a.s.code a.d (a.d + n) (omega arith) a.begins.scope in
    record {
      slots_below = t.slots_below;
      slots_apart = t.slots_apart;
      exits = λ i o h. one i o (slice_get-push a.s.code.exits (record { serial = a.d; record_register = a.d + 1; reach = AtOnce }) i o h);
      self = t.self;
      method = t.method;
      site = t.site;
    }
  where
    free : (r : ℕ) → a.d ≤ r → r < a.d + n → IsOwn a.s.code (a.d + n) r
    free r high low = (low, λ i e. let below = a.begins.scope.slots_below i r e in omega (arith, below, high))

    one :
        (i : ℕ) (o : OwnExit) → (slice_get a.s.code.exits i ≡ Some o) ⊎ ((i ≡ length a.s.code.exits) × (record { serial = a.d; record_register = a.d + 1; reach = AtOnce } ≡ o))
        → IsOwn a.s.code (a.d + n) o.serial × IsOwn a.s.code (a.d + n) o.record_register
    one i o (inl h) = let own = a.begins.scope.exits i o h in ((omega (arith, own.0.0), own.0.1), (omega (arith, own.1.0), own.1.1))
    one i o (inr h) =
        subst (λ (u : OwnExit). IsOwn a.s.code (a.d + n) u.serial × IsOwn a.s.code (a.d + n) u.record_register) h.1
        (free a.d (omega arith) (omega (arith, big)), free (a.d + 1) (omega arith) (omega (arith, big)))
