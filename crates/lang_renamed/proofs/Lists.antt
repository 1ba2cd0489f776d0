-- Lists of renamed items: what is looked for, chosen and counted in them.
use Rattle.std.specs.Prelude.{◌≡◌, ℕ, zero, suc, ◌+◌, ◌&&◌, ◌||◌, Bool, true, false, List, [], ◌∷◌, ◌++◌, Option, Some, None, if◌then◌else◌, length, map, filter, flat_map, fold, take, drop, slice_get, option_map, refl}
use Rattle.std.specs.List.{list_any, list_all, filter_map, cons_option, sum_by}
use Rattle.std.proofs.Common.{ap, sym, ◌∙◌}
use Rattle.std.proofs.lemmas.List.{map-append}

-- equal arguments

pub both : {A B C : Type 0} (f : A → B → C) (a a2 : A) (b b2 : B) → a ≡ a2 → b ≡ b2 → f a b ≡ f a2 b2
both f a a2 b b2 e g = ap (λ x. f x b) e ∙ ap (f a2) g

pub three : {A B C D : Type 0} (f : A → B → C → D) (a a2 : A) (b b2 : B) (c c2 : C) → a ≡ a2 → b ≡ b2 → c ≡ c2 → f a b c ≡ f a2 b2 c2
three f a a2 b b2 c c2 e g h = both (λ x y. f x y c) a a2 b b2 e g ∙ ap (f a2 b2) h

-- a choice
pub if_by : {X Y : Type 0} (h : Y → X) (b c : Bool) (x y : X) (u v : Y) → b ≡ c → x ≡ h u → y ≡ h v → (if b then x else y) ≡ h (if c then u else v)
if_by h true true x y u v e f g = f
if_by h false false x y u v e f g = g
if_by h true false x y u v e f g = absurd (cc)
if_by h false true x y u v e f g = absurd (cc)

pub if_same : {X : Type 0} (b c : Bool) (x y u v : X) → b ≡ c → x ≡ u → y ≡ v → (if b then x else y) ≡ (if c then u else v)
if_same b c x y u v e f g = if_by (λ z. z) b c x y u v e f g

pub and_same : (a b c d : Bool) → a ≡ c → b ≡ d → (a && b) ≡ (c && d)
and_same a b c d e f = both (λ x y. x && y) a c b d e f

pub or_same : (a b c d : Bool) → a ≡ c → b ≡ d → (a || b) ≡ (c || d)
or_same a b c d e f = both (λ x y. x || y) a c b d e f

module _ {X Y : Type 0} (f : X → Y) where
  pub any_by : (p : Y → Bool) (q : X → Bool) → ((x : X) → p (f x) ≡ q x) → (xs : List X) → list_any p (map f xs) ≡ list_any q xs
  any_by p q e [] = refl
  any_by p q e (x ∷ xs) = or_same (p (f x)) (list_any p (map f xs)) (q x) (list_any q xs) (e x) (any_by p q e xs)

  pub all_by : (p : Y → Bool) (q : X → Bool) → ((x : X) → p (f x) ≡ q x) → (xs : List X) → list_all p (map f xs) ≡ list_all q xs
  all_by p q e [] = refl
  all_by p q e (x ∷ xs) = and_same (p (f x)) (list_all p (map f xs)) (q x) (list_all q xs) (e x) (all_by p q e xs)

  sum_from : (p : Y → ℕ) (q : X → ℕ) → ((x : X) → p (f x) ≡ q x) → (xs : List X) (a : ℕ) → fold (λ (n : ℕ) x. n + p x) a (map f xs) ≡ fold (λ (n : ℕ) x. n + q x) a xs
  sum_from p q e [] a = refl
  sum_from p q e (x ∷ xs) a = ap (λ (m : ℕ). fold (λ (n : ℕ) y. n + p y) (a + m) (map f xs)) (e x) ∙ sum_from p q e xs (a + q x)

  pub total_by : (p : Y → ℕ) (q : X → ℕ) → ((x : X) → p (f x) ≡ q x) → (xs : List X) → sum_by p (map f xs) ≡ sum_by q xs
  total_by p q e xs = sum_from p q e xs 0

  pub length_by : (xs : List X) → length (map f xs) ≡ length xs
  length_by [] = refl
  length_by (x ∷ xs) = ap suc (length_by xs)

  pub get_by : (xs : List X) (i : ℕ) → slice_get (map f xs) i ≡ option_map f (slice_get xs i)
  get_by [] i = refl
  get_by (x ∷ xs) zero = refl
  get_by (x ∷ xs) (suc i) = get_by xs i

  pub take_by : (n : ℕ) (xs : List X) → take n (map f xs) ≡ map f (take n xs)
  take_by zero xs = refl
  take_by (suc n) [] = refl
  take_by (suc n) (x ∷ xs) = ap (λ ys. f x ∷ ys) (take_by n xs)

  pub drop_by : (n : ℕ) (xs : List X) → drop n (map f xs) ≡ map f (drop n xs)
  drop_by zero xs = refl
  drop_by (suc n) [] = refl
  drop_by (suc n) (x ∷ xs) = drop_by n xs

  filter_one : (b c : Bool) (x : X) (ys : List Y) (xs : List X) → b ≡ c → ys ≡ map f xs → (if b then f x ∷ ys else ys) ≡ map f (if c then x ∷ xs else xs)
  filter_one b c x ys xs e g = if_by (map f) b c _ _ (x ∷ xs) xs e (ap (λ zs. f x ∷ zs) g) g

  pub filter_by : (p : Y → Bool) (q : X → Bool) → ((x : X) → p (f x) ≡ q x) → (xs : List X) → filter p (map f xs) ≡ map f (filter q xs)
  filter_by p q e [] = refl
  filter_by p q e (x ∷ xs) = filter_one (p (f x)) (q x) x (filter p (map f xs)) (filter q xs) (e x) (filter_by p q e xs)

module _ {X Y V W : Type 0} (f : X → Y) (k : V → W) where
  pub map_by : (g : Y → W) (h : X → V) → ((x : X) → g (f x) ≡ k (h x)) → (xs : List X) → map g (map f xs) ≡ map k (map h xs)
  map_by g h e [] = refl
  map_by g h e (x ∷ xs) = both (λ y ys. y ∷ ys) (g (f x)) (k (h x)) (map g (map f xs)) (map k (map h xs)) (e x) (map_by g h e xs)

  pub flat_by : (g : Y → List W) (h : X → List V) → ((x : X) → g (f x) ≡ map k (h x)) → (xs : List X) → flat_map g (map f xs) ≡ map k (flat_map h xs)
  flat_by g h e [] = refl
  flat_by g h e (x ∷ xs) =
      both (λ ys zs. ys ++ zs) (g (f x)) (map k (h x)) (flat_map g (map f xs)) (map k (flat_map h xs)) (e x) (flat_by g h e xs)
      ∙ sym (map-append k (h x) (flat_map h xs))

  pub chosen_by : (g : Y → Option W) (h : X → Option V) → ((x : X) → g (f x) ≡ option_map k (h x)) → (xs : List X) → filter_map g (map f xs) ≡ map k (filter_map h xs)
  chosen_by g h e [] = refl
  chosen_by g h e (x ∷ xs) =
      ap (λ y. cons_option y (filter_map g (map f xs))) (e x) ∙ ap (cons_option (option_map k (h x))) (chosen_by g h e xs) ∙ one (h x) (filter_map h xs)
    where
      one : (o : Option V) (vs : List V) → cons_option (option_map k o) (map k vs) ≡ map k (cons_option o vs)
      one None vs = refl
      one (Some v) vs = refl
