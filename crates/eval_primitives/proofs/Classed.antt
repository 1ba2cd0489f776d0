-- The classes of words and objects.
use Rattle.std.proofs.Common.{◌≡◌, ℕ, ◌<◌, ◌≤◌, true, false, ℤ, Some, None, refl, ◌∙◌, ap}
use Rattle.std.specs.Prelude.{leb}
use Rattle.std.proofs.lemmas.Bool.{le-leb, lt-leb}
use Rattle.base.specs.declared.datum.Name.{Name}
use Rattle.lang_meaning.specs.Objects.{class_object}
use Rattle.lang_meaning.specs.Classes.{class_of_object}
use Rattle.eval_store.specs.declared.word.Word.{Word}
use Rattle.eval_store.specs.declared.word.Word.TheVariants as word
use Rattle.eval_store.specs.declared.object.Object.{Object}
use Rattle.eval_store.specs.declared.store.Store.{Store}
use Rattle.eval_store.specs.View.{IsFetched}
use Rattle.eval_primitives.specs.Classing.{HasClassOf, IsClassed}

pub integer_classed : (s : Store) (w : Word) (n : ℤ) → w ≡ word.Integer n → HasClassOf s w 13
integer_classed s w n e = record { seen = λ names b. rw e refl }

pub character_classed : (s : Store) (w : Word) (c : ℕ) → w ≡ word.Character c → HasClassOf s w 5
character_classed s w c e = record { seen = λ names b. rw e refl }

pub symbol_classed : (s : Store) (w : Word) (n : Name) → w ≡ word.Symbol n → HasClassOf s w 10
symbol_classed s w n e = record { seen = λ names b. rw e refl }

pub unnamed_classed : (s : Store) (w : Word) (x n : ℕ) → w ≡ word.Unnamed x n → HasClassOf s w 10
unnamed_classed s w x n e = record { seen = λ names b. rw e refl }

pub truth_classed : (s : Store) (w : Word) → w ≡ word.True → HasClassOf s w 10
truth_classed s w e = record { seen = λ names b. rw e refl }

pub nil_classed : (s : Store) (w : Word) → w ≡ word.Nil → HasClassOf s w 11
nil_classed s w e = record { seen = λ names b. rw e refl }

pub object_classed : (s : Store) (w : Word) (i c : ℕ) (o : Object) → w ≡ word.Object i → IsFetched s (word.Object i) (Some o) → IsClassed o c → HasClassOf s w c
object_classed s w i c o e f x = record { seen = λ names b. rw e (ap class_of_object (f.object names b) ∙ x.seen names) }

pub nothing_classed : (s : Store) (w : Word) (i : ℕ) → w ≡ word.Object i → IsFetched s (word.Object i) None → HasClassOf s w 0
nothing_classed s w i e f = record { seen = λ names b. rw e (ap class_of_object (f.object names b)) }

pub built_in_classed : (c : ℕ) → c ≤ 16 → 15 ≡ class_of_object (Some (class_object c))
built_in_classed c h = let test : leb c 16 ≡ true = le-leb c 16 h in rw test refl

pub standard_classed : (c : ℕ) → 16 < c → 16 ≡ class_of_object (Some (class_object c))
standard_classed c h = let test : leb c 16 ≡ false = lt-leb c 16 h in rw test refl
