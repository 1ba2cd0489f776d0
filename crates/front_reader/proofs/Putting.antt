-- What is done with the innermost open datum, where the code keeps them the outermost first.
use Rattle.std.proofs.Common.{◌≡◌, ℕ, ◌<◌, false, nat_le, List as Seq, [], ◌∷◌, ◌++◌, length, reverse, Option, Some, None, refl, sym, ap, ◌∙◌}
use Rattle.std.proofs.lemmas.List.{reverse-append, length-reverse}
use Rattle.std.proofs.lemmas.Bool.{lt-leb}
use Rattle.base.specs.declared.place.Place.{Place}
use Rattle.base.specs.declared.datum.Name.{Name}
use Rattle.base.specs.Data.{Item, items_of, item_and}
use Rattle.front_reader.specs.declared.pending.Pending.{Pending}
use Rattle.front_reader.specs.declared.pending.Pending.TheVariants.{InList, AtDot, AtTail, InVector, AtPrefix}
use Rattle.front_reader.specs.declared.opening.Opening.{Opening}
use Rattle.front_reader.specs.Meanings.{in_front, prefix_item}
use Rattle.front_reader.specs.bridge.Machine.{LexemeState, next, put_in, put, full_dot, opened, opening_step}
use Rattle.front_reader.specs.bridge.Turns.{with_open, open_state}

-- the innermost is the last
pub innermost_first : (old mid : Seq Pending) (o : Pending) → old ≡ mid ++ o ∷ [] → reverse old ≡ o ∷ reverse mid
innermost_first old mid o e = ap reverse e ∙ reverse-append mid (o ∷ [])

-- a datum joins an open one that then is this one
pub put-joins : (old mid new : Seq Pending) (o u : Pending) (d : Item) → old ≡ mid ++ o ∷ [] → new ≡ mid ++ u ∷ []
    → ((s : LexemeState) (os : Seq Pending) → put_in s.rest s.place s.done (o ∷ os) d ≡ record s { pending = u ∷ os })
    → (s : LexemeState) → put s (reverse old) d ≡ next (with_open s None new)
put-joins old mid new o u d e f h s =
    ap (λ os. put s os d) (innermost_first old mid o e) ∙ ap next (h s (reverse mid))
    ∙ ap (λ os. next (record s { pending = os })) (sym (innermost_first new mid u f))

pub put-list : (old mid new : Seq Pending) (o : Pending) (q : Place) (ds es : Seq Item) (d : Item) → old ≡ mid ++ o ∷ []
    → o ≡ InList q ds → es ≡ ds ++ d ∷ [] → new ≡ mid ++ InList q es ∷ []
    → (s : LexemeState) → put s (reverse old) d ≡ next (with_open s None new)
unfolding put_in
put-list old mid new o q ds es d e f g h =
    put-joins old mid new (InList q ds) (InList q (ds ++ d ∷ [])) d (e ∙ ap (λ x. mid ++ x ∷ []) f)
    (h ∙ ap (λ x. mid ++ InList q x ∷ []) g) (λ s os. refl)

pub put-vector : (old mid new : Seq Pending) (o : Pending) (q : Place) (ds es : Seq Item) (d : Item) → old ≡ mid ++ o ∷ []
    → o ≡ InVector q ds → es ≡ ds ++ d ∷ [] → new ≡ mid ++ InVector q es ∷ []
    → (s : LexemeState) → put s (reverse old) d ≡ next (with_open s None new)
unfolding put_in
put-vector old mid new o q ds es d e f g h =
    put-joins old mid new (InVector q ds) (InVector q (ds ++ d ∷ [])) d (e ∙ ap (λ x. mid ++ x ∷ []) f)
    (h ∙ ap (λ x. mid ++ InVector q x ∷ []) g) (λ s os. refl)

pub put-dot : (old mid new : Seq Pending) (o : Pending) (q at : Place) (ds : Seq Item) (d : Item) → old ≡ mid ++ o ∷ []
    → o ≡ AtDot q ds at → new ≡ mid ++ AtTail q ds at d ∷ []
    → (s : LexemeState) → put s (reverse old) d ≡ next (with_open s None new)
unfolding put_in
put-dot old mid new o q at ds d e f h =
    put-joins old mid new (AtDot q ds at) (AtTail q ds at d) d (e ∙ ap (λ x. mid ++ x ∷ []) f) h (λ s os. refl)

pub put-tail : (old mid new : Seq Pending) (o : Pending) (q at : Place) (ds : Seq Item) (t d : Item) → old ≡ mid ++ o ∷ []
    → o ≡ AtTail q ds at t → new ≡ mid ++ AtTail q ds at t ∷ []
    → (s : LexemeState) → put s (reverse old) d ≡ next (with_open s None new)
unfolding put_in
put-tail old mid new o q at ds t d e f h =
    put-joins old mid new (AtTail q ds at t) (AtTail q ds at t) d (e ∙ ap (λ x. mid ++ x ∷ []) f) h (λ s os. refl)

pub put-prefix : (old mid : Seq Pending) (o : Pending) (q : Place) (n : Name) (d e : Item) → old ≡ mid ++ o ∷ []
    → o ≡ AtPrefix q n → e ≡ prefix_item q n.0 d
    → (s : LexemeState) → put s (reverse mid) e ≡ put s (reverse old) d
unfolding put_in
put-prefix old mid o q n d e f g h s =
    ap (put s (reverse mid)) h
    ∙ sym (ap (λ os. put s os d) (innermost_first old mid (AtPrefix q n) (f ∙ ap (λ x. mid ++ x ∷ []) g)))

pub put-top : (old new : Seq Pending) (d : Item) → old ≡ [] → (s : LexemeState) → put s (reverse old) d ≡ next (with_open s (Some d) new)
unfolding put_in
put-top old new d e s = ap (λ os. put s (reverse os) d) e

-- joined data
pub items-joined : (ds es : Seq Item) → items_of (ds ++ es) ≡ in_front ds (items_of es)
items-joined [] es = refl
items-joined (d ∷ ds) es = ap (item_and d) (items-joined ds es)

-- an opening
pub opens-more : (number : Seq ℕ → Option ℕ) (old new : Seq Pending) (p : Place) (o : Opening) (u : Pending)
    → length old < 256 → full_dot (reverse old) ≡ None → new ≡ old ++ u ∷ []
    → ((s : LexemeState) → opened number s p o ≡ next (record s { pending = u ∷ s.pending }))
    → (s : LexemeState) (r : Seq ℕ) → opening_step number (open_state s old) p r o ≡ next (with_open s None new)
opens-more number old new p o u n f e h s r =
    let le : nat_le 256 (length (reverse old)) ≡ false = rw (length-reverse old) (lt-leb 256 (length old) n) in
    rw (le, f, h (open_state s old)) (ap (λ os. next (record s { pending = os })) (sym (innermost_first new old u e)))
