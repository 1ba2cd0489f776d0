-- The exits that are left from one of them on.
use Rattle.std.proofs.Common.{◌≡◌, ◌≢◌, ℕ, ◌==◌, true, false, List, [], ◌∷◌, Some, refl, ap, sym, ◌∙◌, arith}
use Rattle.std.proofs.lemmas.Bool.Decides.{nat_tests}
use Rattle.std.specs.Prelude.{reverse, option_map}
use Rattle.lang_meaning.specs.State.{Exit, exits_from}
use Rattle.eval_state.specs.declared.frame.ContinuationFrame.{ContinuationFrame}
use Rattle.eval_state.specs.declared.links.LinkKind.TheVariants.{Exits}
use Rattle.eval_state.specs.Chains.{Linking, chained}
use Rattle.eval_state.specs.Frames.{exit_link}
use Rattle.eval_state.specs.Links.{IsNoneNearer, IsNearest}
use Rattle.eval_control.specs.declared.exits.Exit.{Exit as Here}
use Rattle.eval_control.specs.Exits.{exit_of}
use Rattle.eval_control.proofs.Looking.{none_left, first_left}

-- the exit was found
pub reached : (names : List (List ℕ)) (items : List ContinuationFrame) (link behind number : ℕ) (w : ContinuationFrame) (e : Here) → IsNearest Exits items link w behind
    → option_map (λ (l : Linking Exit). l.items) (exit_link names w) ≡ Some (exit_of names e ∷ []) → e.number ≡ number
    → chained (exit_link names) (reverse items) link ≡ exits_from number (chained (exit_link names) (reverse items) link)
reached names items link behind number w e n made h =
    let c : chained (exit_link names) (reverse items) link ≡ exit_of names e ∷ chained (exit_link names) (reverse items) behind = first_left names items link behind w e n made in
    let f : exits_from number (exit_of names e ∷ chained (exit_link names) (reverse items) behind) ≡ exit_of names e ∷ chained (exit_link names) (reverse items) behind = (let t : (e.number == number) ≡ true = grind (arith, nat_tests) in rw t refl) in
    c ∙ sym (ap (exits_from number) c ∙ f)

-- it is not this one
pub not_this : (names : List (List ℕ)) (items : List ContinuationFrame) (link behind number : ℕ) (w : ContinuationFrame) (e : Here) → IsNearest Exits items link w behind
    → option_map (λ (l : Linking Exit). l.items) (exit_link names w) ≡ Some (exit_of names e ∷ []) → e.number ≢ number
    → exits_from number (chained (exit_link names) (reverse items) link) ≡ exits_from number (chained (exit_link names) (reverse items) behind)
not_this names items link behind number w e n made h =
    let c : chained (exit_link names) (reverse items) link ≡ exit_of names e ∷ chained (exit_link names) (reverse items) behind = first_left names items link behind w e n made in
    let f : exits_from number (exit_of names e ∷ chained (exit_link names) (reverse items) behind) ≡ exits_from number (chained (exit_link names) (reverse items) behind) = (let t : (e.number == number) ≡ false = grind (arith, nat_tests) in rw t refl) in
    ap (exits_from number) c ∙ f

-- no exit is left
pub none_reached : (names : List (List ℕ)) (items : List ContinuationFrame) (link number : ℕ) → IsNoneNearer Exits items 0 link
    → chained (exit_link names) (reverse items) link ≡ exits_from number (chained (exit_link names) (reverse items) link)
none_reached names items link number h =
    let c : chained (exit_link names) (reverse items) link ≡ [] = none_left names items link h in
    c ∙ sym (ap (exits_from number) c)
