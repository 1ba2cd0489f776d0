-- The exits of the own activation, one after another.
use Rattle.std.proofs.Common.{◌≡◌, ℕ, zero, suc, ◌+◌, ◌-◌, ◌<◌, ◌≤◌, List, [], ◌∷◌, Option, Some, None, refl, ap, sym, ◌∙◌, length, get_or, arith, zero-add}
use Rattle.std.proofs.lemmas.List.{length-reverse, get_or-reverse}
use Rattle.std.proofs.lemmas.Option.{slice_get-get_or, slice_get_past}
use Rattle.std.specs.Prelude.{reverse, slice_get, option_map}
use Rattle.eval_state.specs.declared.frame.ContinuationFrame.{ContinuationFrame}
use Rattle.eval_state.specs.declared.frame.ContinuationFrame.TheVariants as frame
use Rattle.eval_state.specs.declared.links.LinkKind.TheVariants.{Own}
use Rattle.eval_state.specs.Chains.{Linking, chained}
use Rattle.eval_state.specs.Frames.{own_link, own_in}
use Rattle.eval_state.specs.Links.{next_of, IsNoneNearer, IsNearest}
use Rattle.eval_state.proofs.Following.{AreLinked, none_further, one_further}

own_next : (w : ContinuationFrame) → next_of Own w ≡ option_map (λ (l : Linking ℕ). l.next) (own_link w)
own_next (frame.Block n e o) = refl
own_next w = refl

pub own_linked : AreLinked Own own_link
own_linked = record { next_is = own_next }

-- each frame that links one has one
own_of : (w : ContinuationFrame) (next : ℕ) → next_of Own w ≡ Some next → (n : ℕ) × (option_map (λ (l : Linking ℕ). l.items) (own_link w) ≡ Some (n ∷ []))
own_of (frame.Block number exits own) next h = (number, refl)
own_of (frame.Tagbody number segments outside) next h = (number, refl)
own_of w next h = absurd (cc h)

-- the exit of the nearest frame, and those behind it
nearest_own : (items : List ContinuationFrame) (left behind : ℕ) (w : ContinuationFrame) → IsNearest Own items left w behind
    → (n : ℕ) × (option_map (λ (l : Linking ℕ). l.items) (own_link w) ≡ Some (n ∷ []))
    × (chained own_link (reverse items) left ≡ n ∷ chained own_link (reverse items) behind)
nearest_own items left behind w near =
    let (n, made) = own_of w near.next near.links in
    (n, made, one_further Own own_link items left behind w (n ∷ []) own_linked near made)

-- how far they are counted
pub record IsCounting (items : List ContinuationFrame) (link left count : ℕ) : Type 0 where
  pub so_far : length (chained own_link (reverse items) link) ≡ count + length (chained own_link (reverse items) left)

pub count_begins : (items : List ContinuationFrame) (link : ℕ) → IsCounting items link link 0
count_begins items link = record { so_far = sym (zero-add (length (chained own_link (reverse items) link))) }

pub count_goes : (items : List ContinuationFrame) (link left behind count more : ℕ) (w : ContinuationFrame) → more ≡ suc count → IsCounting items link left count
    → IsNearest Own items left w behind
    → IsCounting items link behind more
count_goes items link left behind count more w e c near =
    let (n, made, there) = nearest_own items left behind w near in
    let one : length (chained own_link (reverse items) left) ≡ suc (length (chained own_link (reverse items) behind)) = ap length there in
    let so_far : length (chained own_link (reverse items) link) ≡ count + length (chained own_link (reverse items) left) = c.so_far in
    record { so_far = omega arith }

pub count_ends : (items : List ContinuationFrame) (link left count : ℕ) → IsCounting items link left count → IsNoneNearer Own items 0 left
    → count ≡ length (chained own_link (reverse items) link)
count_ends items link left count c n =
    let none : length (chained own_link (reverse items) left) ≡ 0 = ap length (none_further Own own_link items left own_linked n) in
    let so_far : length (chained own_link (reverse items) link) ≡ count + length (chained own_link (reverse items) left) = c.so_far in
    omega arith

-- how far they are passed
pub record IsPassing (items : List ContinuationFrame) (link others left more : ℕ) : Type 0 where
  pub same : slice_get (chained own_link (reverse items) link) others ≡ slice_get (chained own_link (reverse items) left) more

same_number : (o : Option ℕ) (n : ℕ) → Some (n ∷ []) ≡ option_map (λ (m : ℕ). m ∷ []) o → o ≡ Some n
same_number (Some m) n e = cc
same_number None n e = absurd (cc)

pub found_there : (items : List ContinuationFrame) (link others left behind more : ℕ) (w : ContinuationFrame) (o : Option ℕ) → more ≡ 0 → IsPassing items link others left more
    → IsNearest Own items left w behind
    → option_map (λ (l : Linking ℕ). l.items) (own_link w) ≡ option_map (λ (n : ℕ). n ∷ []) o
    → o ≡ slice_get (chained own_link (reverse items) link) others
found_there items link others left behind more w o zero_left p near made =
    let (n, here, there) = nearest_own items left behind w near in
    same_number o n (sym here ∙ made)
    ∙ sym (p.same ∙ ap (slice_get (chained own_link (reverse items) left)) zero_left ∙ ap (λ xs. slice_get xs 0) there)

-- an item behind the first one
past_first : (n : ℕ) (xs : List ℕ) (place : ℕ) → 0 < place → slice_get (n ∷ xs) place ≡ slice_get xs (place - 1)
past_first n xs (suc place) h = ap (slice_get xs) (let d : place ≡ suc place - 1 = omega arith in d)
past_first n xs zero h = absurd (omega arith)

pub passing_goes : (items : List ContinuationFrame) (link others left behind more : ℕ) (w : ContinuationFrame) → 0 < more → IsPassing items link others left more
    → IsNearest Own items left w behind
    → IsPassing items link others behind (more - 1)
passing_goes items link others left behind more w h p near =
    let (n, made, there) = nearest_own items left behind w near in
    record { same = p.same ∙ ap (λ xs. slice_get xs more) there ∙ past_first n (chained own_link (reverse items) behind) more h }

pub passing_ends : (items : List ContinuationFrame) (link others left more : ℕ) → IsPassing items link others left more → IsNoneNearer Own items 0 left
    → None ≡ slice_get (chained own_link (reverse items) link) others
passing_ends items link others left more p n =
    sym (p.same ∙ ap (λ xs. slice_get xs more) (none_further Own own_link items left own_linked n))

-- counted from the other end
pub from_outermost : (items : List ContinuationFrame) (link number count : ℕ) (o : Option ℕ) → count ≡ length (chained own_link (reverse items) link) → number < count
    → o ≡ slice_get (chained own_link (reverse items) link) (count - 1 - number) → o ≡ slice_get (own_in (reverse items) link) number
unfolding own_in
from_outermost items link number count o e h is =
    let xs : List ℕ = chained own_link (reverse items) link in
    is
    ∙ slice_get-get_or xs (count - 1 - number) 0 (omega arith)
    ∙ ap (λ n. Some (get_or xs (n - 1 - number) 0)) e
    ∙ ap Some (sym (get_or-reverse xs number 0 (omega arith)))
    ∙ sym (slice_get-get_or (reverse xs) number 0 (omega (arith, length-reverse xs)))

pub beyond_outermost : (items : List ContinuationFrame) (link number count : ℕ) → count ≡ length (chained own_link (reverse items) link) → count ≤ number
    → None ≡ slice_get (own_in (reverse items) link) number
unfolding own_in
beyond_outermost items link number count e h =
    sym (slice_get_past (reverse (chained own_link (reverse items) link)) number (omega (arith, length-reverse (chained own_link (reverse items) link))))
