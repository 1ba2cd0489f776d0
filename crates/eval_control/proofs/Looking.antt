-- Looking for an exit, one after another.
use Rattle.std.proofs.Common.{◌≡◌, ℕ, ◌+◌, Bool, true, false, List, [], ◌∷◌, Some, None, refl}
use Rattle.std.specs.Prelude.{reverse, option_map}
use Rattle.lang_meaning.specs.State.{Exit}
use Rattle.lang_meaning.specs.Lookup.{passed}
use Rattle.eval_state.specs.declared.frame.ContinuationFrame.{ContinuationFrame}
use Rattle.eval_state.specs.declared.frame.ContinuationFrame.TheVariants as frame
use Rattle.eval_state.specs.declared.links.LinkKind.TheVariants.{Exits}
use Rattle.eval_state.specs.Chains.{Linking, chained}
use Rattle.eval_state.specs.Frames.{exit_link}
use Rattle.eval_state.specs.Links.{next_of, IsNoneNearer, IsNearest}
use Rattle.eval_state.proofs.Following.{AreLinked, none_further, one_further, has_things}
use Rattle.eval_control.specs.declared.exits.Sought.{Sought}
use Rattle.eval_control.specs.declared.exits.Exit.{Exit as Here}
use Rattle.eval_control.specs.Exits.{exit_of, meets, IsLookedFor}
use Rattle.eval_control.proofs.Searching.{IsSearching, search_begins, search_goes, search_found, search_ends}

-- the exits are those of frames that link exits
next_exit : (names : List (List ℕ)) (w : ContinuationFrame) → next_of Exits w ≡ option_map (λ (l : Linking Exit). l.next) (exit_link names w)
next_exit names (frame.Block n e o) = refl
next_exit names w = refl

pub exits_linked : (names : List (List ℕ)) → AreLinked Exits (exit_link names)
exits_linked names = record { next_is = next_exit names }

-- no exit is left
pub none_left : (names : List (List ℕ)) (items : List ContinuationFrame) (link : ℕ) → IsNoneNearer Exits items 0 link → chained (exit_link names) (reverse items) link ≡ []
none_left names items link f = none_further Exits (exit_link names) items link (exits_linked names) f

-- the innermost one, and those behind it
pub first_left : (names : List (List ℕ)) (items : List ContinuationFrame) (link behind : ℕ) (w : ContinuationFrame) (e : Here) → IsNearest Exits items link w behind
    → option_map (λ (l : Linking Exit). l.items) (exit_link names w) ≡ Some (exit_of names e ∷ [])
    → chained (exit_link names) (reverse items) link ≡ exit_of names e ∷ chained (exit_link names) (reverse items) behind
first_left names items link behind w e n made = one_further Exits (exit_link names) items link behind w (exit_of names e ∷ []) (exits_linked names) n made

-- how far the search has come
abbrev pub IsLooking : List (List ℕ) → Sought → List ContinuationFrame → (link left count : ℕ) → Type 0
IsLooking names sought items link left count =
    IsSearching (meets names sought) (chained (exit_link names) (reverse items) link) (chained (exit_link names) (reverse items) left) count

pub begun : (names : List (List ℕ)) (sought : Sought) (items : List ContinuationFrame) (link : ℕ) → IsLooking names sought items link link 0
begun names sought items link = search_begins (meets names sought) (chained (exit_link names) (reverse items) link)

module _
    (names : List (List ℕ)) (sought : Sought) (items : List ContinuationFrame) (link left behind count more : ℕ) (w : ContinuationFrame) (e : Here)
    (one : more ≡ count + 1) (looking : IsLooking names sought items link left count) (near : IsNearest Exits items left w behind)
    (made : option_map (λ (l : Linking Exit). l.items) (exit_link names w) ≡ Some (exit_of names e ∷ []))
  where
    abbrev exits : ℕ → List Exit
    exits n = chained (exit_link names) (reverse items) n

    -- whether it is looked for or not, one is passed
    one_more : (t : Bool) → meets names sought (exit_of names e) ≡ t → more ≡ count + passed (meets names sought) (exit_of names e ∷ [])
    one_more true h = rw h one
    one_more false h = rw h one

    -- one that is not looked for
    pub passed_one : meets names sought (exit_of names e) ≡ false → IsLooking names sought items link behind more
    passed_one no_match =
        search_goes (meets names sought) (exits link) (exits left) (exit_of names e ∷ []) (exits behind) count more
        (first_left names items left behind w e near made) (rw no_match refl) (one_more false no_match) looking

    -- the one that is looked for
    pub found_one : meets names sought (exit_of names e) ≡ true → IsLookedFor names sought (reverse items) link (record { found = Some e; passed = more })
    found_one match =
        let found = search_found (meets names sought) (exit_of names e) (exits link) (exits left) (exit_of names e ∷ []) (exits behind) count more
        (first_left names items left behind w e near made) (rw match refl) (one_more true match) looking in
        record { found = found.0; passed_so_many = found.1 }

-- there is none
pub found_none : (names : List (List ℕ)) (sought : Sought) (items : List ContinuationFrame) (link left count : ℕ) → IsLooking names sought items link left count
    → IsNoneNearer Exits items 0 left
    → IsLookedFor names sought (reverse items) link (record { found = None; passed = count })
found_none names sought items link left count looking n =
    let ended = search_ends (meets names sought) (chained (exit_link names) (reverse items) link) (chained (exit_link names) (reverse items) left) count
    (none_left names items left n) looking in
    record { found = ended.0; passed_so_many = ended.1 }

-- a frame that links exits makes one
pub makes_one : (names : List (List ℕ)) (items : List ContinuationFrame) (link behind : ℕ) (w : ContinuationFrame) → IsNearest Exits items link w behind
    → option_map (λ (l : Linking Exit). l.items) (exit_link names w) ≡ None → ⊥
makes_one names items link behind w n h = has_things Exits (exit_link names) items link behind w (exits_linked names) n h
