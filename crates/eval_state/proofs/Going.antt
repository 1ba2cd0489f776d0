-- What a machine has come to, from what it has come to in parts.
use Rattle.std.proofs.Common.{◌≡◌, ℕ, List, ◌∷◌, refl, sym, ap, ◌∙◌, subst, reverse}
use Rattle.flat_language.specs.FlatState.{FlatState}
use Rattle.eval_machine.specs.Configuration.{Setting, Configuration}
use Rattle.eval_store.specs.View.{Beside}
use Rattle.eval_state.specs.declared.machine.Machine.{Machine}
use Rattle.eval_state.specs.declared.frame.ContinuationFrame.{ContinuationFrame}
use Rattle.eval_state.specs.Tops.{IsAbove}
use Rattle.eval_state.specs.View.{StepsTo, IsGiven, setting_of, state}
use Rattle.eval_state.proofs.Pushes.{one_on}

-- the same configuration, said in another way
pub followed : (old new : Machine) (f g : List (List ℕ) → Setting → Beside → Configuration) → StepsTo old new f
    → ((names : List (List ℕ)) (s : Setting) (b : Beside) → f names s b ≡ g names s b) → StepsTo old new g
followed old new f g x h = record {
  given = x.given;
  comes = λ names b k. x.comes names b k ∙ h names (setting_of names old.given) b;
}

-- from a machine that has the same things
pub from_same : (old mid new : Machine) (f : Machine → List (List ℕ) → Setting → Beside → Configuration) → old ≡ mid → StepsTo mid new (f mid) → StepsTo old new (f old)
from_same old mid new f e x = subst (λ m. StepsTo m new (f m)) (sym e) x

-- from a machine that is given the same
pub from_given : (old mid new : Machine) (f : List (List ℕ) → Setting → Beside → Configuration) → mid.given ≡ old.given → StepsTo mid new f → StepsTo old new f
from_given old mid new f e x = record {
  given = x.given ∙ e;
  comes = λ names b k.
      let k' : IsGiven names mid.given = subst (IsGiven names) (sym e) k in
      x.comes names b k' ∙ ap (λ g. f names (setting_of names g) b) e;
}

-- from a machine whose store alone has changed: the configuration may be said of the store before
pub after_store : (old mid new : Machine) (f : Machine → List (List ℕ) → Setting → FlatState → Configuration) (g : List (List ℕ) → FlatState → FlatState)
    → mid ≡ record old { store = mid.store } → ((names : List (List ℕ)) (b : Beside) → state names mid b ≡ g names (state names old b))
    → StepsTo mid new (λ names s b. f mid names s (state names mid b))
    → StepsTo old new (λ names s b. f (record old { store = mid.store }) names s (g names (state names old b)))
after_store old mid new f g same is x =
    let said : StepsTo mid new (λ names s b. f mid names s (g names (state names old b))) =
    followed mid new (λ names s b. f mid names s (state names mid b)) (λ names s b. f mid names s (g names (state names old b))) x (λ names s b. ap (f mid names s) (is names b)) in
    let moved : StepsTo (record old { store = mid.store }) new (λ names s b. f (record old { store = mid.store }) names s (g names (state names old b))) =
    subst (λ m. StepsTo m new (λ names s b. f m names s (g names (state names old b)))) same said in
    from_given old (record old { store = mid.store }) new (λ names s b. f (record old { store = mid.store }) names s (g names (state names old b))) refl moved

-- from a machine with one frame more
pub after_push : (old mid new : Machine) (w : ContinuationFrame) (f : Machine → List (List ℕ) → Setting → List ContinuationFrame → FlatState → Configuration) → IsAbove old mid w
    → StepsTo mid new (λ names s b. f mid names s (reverse mid.frames.items) (state names mid b))
    → StepsTo old new (λ names s b. f (record old { frames = mid.frames }) names s (w ∷ reverse old.frames.items) (state names old b))
after_push old mid new w f a x =
    let moved : StepsTo (record old { frames = mid.frames }) new (λ names s b. f (record old { frames = mid.frames }) names s (reverse mid.frames.items) (state names old b)) =
    subst (λ m. StepsTo m new (λ names s b. f m names s (reverse mid.frames.items) (state names m b))) a.same x in
    let on : StepsTo (record old { frames = mid.frames }) new (λ names s b. f (record old { frames = mid.frames }) names s (w ∷ reverse old.frames.items) (state names old b)) =
    subst (λ ws. StepsTo (record old { frames = mid.frames }) new (λ names s b. f (record old { frames = mid.frames }) names s ws (state names old b))) (ap reverse a.frames ∙ one_on old.frames.items w) moved in
    from_given old (record old { frames = mid.frames }) new (λ names s b. f (record old { frames = mid.frames }) names s (w ∷ reverse old.frames.items) (state names old b)) refl on
