-- How an exit of the activation may be left, where one more record stands inside: an exit's, or a cleanup's.
use Rattle.std.proofs.Common.{◌≡◌, inl, inr, ℕ, Bool, true, false, List, [], ◌∷◌, Option, Some, sym, ap, ◌∙◌}
use Rattle.std.specs.Prelude.{◌==◌, ◌||◌, if◌then◌else◌}
use Rattle.std.proofs.lemmas.Bool.{ne_eqb}
use Rattle.lang_meaning.specs.State.{Exit}
use Rattle.back_lowering.specs.Scope.{behind_cleanup}
use Rattle.back_lowering.specs.declared.scope.Reach.{Reach}
use Rattle.back_lowering.specs.declared.scope.Reach.TheVariants.{AtOnce, ByTransfer, BySearch}
use Rattle.back_relation.specs.Worlds.{Standing, for_exit, is_cleanup, IsIn, record_of_exit, first_stop}
use Rattle.back_relation.specs.Activation.{ExitReached}
use Rattle.back_relation.specs.Reaches.{LawOfReaches}

-- a first stop is one of the records
pub first_stop_in : (t : ℕ) (rs : List Standing) (r : Standing) (outer : List Standing) → first_stop t rs ≡ r ∷ outer → IsIn r rs
first_stop_in t [] r outer e = absurd (cc e)
first_stop_in t (q ∷ rs) r outer e = by ((q.address == t) || is_cleanup q.role) e (λ f. first_stop_in t rs r outer f)
  where
    by : (b : Bool) → (if b then q ∷ rs else first_stop t rs) ≡ r ∷ outer → (first_stop t rs ≡ r ∷ outer → IsIn r rs) → IsIn r (q ∷ rs)
    by true f inner = let same : q ≡ r = cc f in inl (sym same)
    by false f inner = inr (inner f)

module _ (rs valid : List Standing) (exits : List Exit) (new : Standing) where
  -- an exit's record
  pub reached_under_exit :
      (x : Exit) (reach : Reach) (e : ℕ) (word : Option ℕ) → new.role ≡ for_exit x → (x.number ≡ e → ⊥)
      → ((r : Standing) → IsIn r rs → new.address ≡ r.address → ⊥) → ExitReached reach rs valid exits e word
      → ExitReached reach (new ∷ rs) (new ∷ valid) (x ∷ exits) e word
  reached_under_exit x AtOnce e word role other apart h =
      let outside : ((new.address == h.0.address) || is_cleanup new.role) ≡ false =
      ap (λ b. b || is_cleanup new.role) (ne_eqb new.address h.0.address (apart h.0 (first_stop_in h.0.address rs h.0 h.1 h.4))) ∙ ap is_cleanup role in (
        h.0,
        h.1,
        h.2,
        ap (λ b. if b then Some new else record_of_exit e exits valid) (ne_eqb x.number e other) ∙ h.3,
        ap (λ b. if b then new ∷ rs else first_stop h.0.address rs) outside ∙ h.4,
      )
  reached_under_exit x ByTransfer e word role other apart h =
      (h.0, h.1, ap (λ b. if b then Some new else record_of_exit e exits valid) (ne_eqb x.number e other) ∙ h.2)
  reached_under_exit x BySearch e word role other apart h = tt

  -- a cleanup's record: a transfer would stop there first
  pub reached_under_cleanup :
      (reach : Reach) (e : ℕ) (word : Option ℕ) → ExitReached reach rs valid exits e word → ExitReached (behind_cleanup reach) (new ∷ rs) valid exits e word
  reached_under_cleanup AtOnce e word h = (h.0, h.2, h.3)
  reached_under_cleanup ByTransfer e word h = h
  reached_under_cleanup BySearch e word h = tt

pub reaches_law : LawOfReaches
reaches_law = record {
  under_exit = λ rs valid exits new x reach e word role other apart h. reached_under_exit rs valid exits new x reach e word role other apart h;
  under_cleanup = λ rs valid exits new reach e word h. reached_under_cleanup rs valid exits new reach e word h;
}
