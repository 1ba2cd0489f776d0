-- By kind of object: which headers it has, and what is found in it.
use Rattle.std.proofs.Common.{◌≡◌, ℕ, ◌%◌, Bool, true, false, List, Option, Some, None, refl, ap, arith}
use Rattle.std.specs.Prelude.{◌==◌, ◌||◌, is_some}
use Rattle.std.proofs.lemmas.Bool.Decides.{nat_tests}
use Rattle.lang_meaning.specs.Values.{Value}
use Rattle.lang_meaning.specs.Objects.{Object, string, vector, instance, class_object, input_stream, output_stream}
use Rattle.lang_meaning.specs.Primitives.{as_string, as_vector, as_class, as_instance, as_stream, is_function, is_generic}
use Rattle.mid_arena.specs.Tags.{string_header, vector_header, class_header, input_header, output_header, function_header, generic_header, symbol_header, fresh_header}
use Rattle.mid_arena.proofs.Keeping.{header_of}

-- what has to hold of a kind, so that the header decides it
pub record IsKindOf (p : Option Object → Bool) (is_kind : ℕ → Bool) : Type 0 where
  pub none : p None ≡ false
  pub each : (o : Object) → p (Some o) ≡ is_kind (header_of o)
  pub cons : is_kind 0 ≡ false
  pub symbol : is_kind symbol_header ≡ false
  pub fresh : is_kind fresh_header ≡ false

pub string_kind : IsKindOf (λ o. is_some (as_string o)) (λ h. h == string_header)
string_kind = record { none = refl; each = each; cons = refl; symbol = refl; fresh = refl }
  where
    each : (o : Object) → is_some (as_string (Some o)) ≡ (header_of o == string_header)
    each (instance c values mark) = grind (arith, nat_tests)
    each o = refl

pub vector_kind : IsKindOf (λ o. is_some (as_vector o)) (λ h. h == vector_header)
vector_kind = record { none = refl; each = each; cons = refl; symbol = refl; fresh = refl }
  where
    each : (o : Object) → is_some (as_vector (Some o)) ≡ (header_of o == vector_header)
    each (instance c values mark) = grind (arith, nat_tests)
    each o = refl

pub class_kind : IsKindOf (λ o. is_some (as_class o)) (λ h. h == class_header)
class_kind = record { none = refl; each = each; cons = refl; symbol = refl; fresh = refl }
  where
    each : (o : Object) → is_some (as_class (Some o)) ≡ (header_of o == class_header)
    each (instance c values mark) = grind (arith, nat_tests)
    each o = refl

-- the lowest four bits of the header of an instance are 3
pub instance_kind : IsKindOf (λ o. is_some (as_instance o)) (λ h. h % 16 == 3)
instance_kind = record { none = refl; each = each; cons = refl; symbol = refl; fresh = refl }
  where
    each : (o : Object) → is_some (as_instance (Some o)) ≡ (header_of o % 16 == 3)
    each (instance c values mark) = grind (arith, nat_tests)
    each o = refl

pub stream_kind : IsKindOf (λ o. is_some (as_stream o)) (λ h. h == input_header || h == output_header)
stream_kind = record { none = refl; each = each; cons = refl; symbol = refl; fresh = refl }
  where
    each : (o : Object) → is_some (as_stream (Some o)) ≡ (header_of o == input_header || header_of o == output_header)
    each (instance c values mark) = grind (arith, nat_tests)
    each o = refl

pub function_kind : IsKindOf is_function (λ h. h == function_header || h == generic_header)
function_kind = record { none = refl; each = each; cons = refl; symbol = refl; fresh = refl }
  where
    each : (o : Object) → is_function (Some o) ≡ (header_of o == function_header || header_of o == generic_header)
    each (instance c values mark) = grind (arith, nat_tests)
    each o = refl

pub generic_kind : IsKindOf is_generic (λ h. h == generic_header)
generic_kind = record { none = refl; each = each; cons = refl; symbol = refl; fresh = refl }
  where
    each : (o : Object) → is_generic (Some o) ≡ (header_of o == generic_header)
    each (instance c values mark) = grind (arith, nat_tests)
    each o = refl

-- what is found in an object tells what the object is

pub string_is : (o : Option Object) (bytes : List ℕ) → as_string o ≡ Some bytes → o ≡ Some (string bytes)
string_is (Some (string bytes)) x e = cc e
string_is o x e = absurd (cc e)

pub vector_is : (o : Option Object) (vs : List Value) → as_vector o ≡ Some vs → o ≡ Some (vector vs)
vector_is (Some (vector vs)) x e = cc e
vector_is o x e = absurd (cc e)

pub class_is : (o : Option Object) (c : ℕ) → as_class o ≡ Some c → o ≡ Some (class_object c)
class_is (Some (class_object c)) x e = cc e
class_is o x e = absurd (cc e)

-- the instance with a class, slots and a mark
abbrev pub instance_of : ℕ × List (Option Value) × Value → Object
instance_of i = instance i.0 i.1 i.2

pub instance_is : (o : Option Object) (i : ℕ × List (Option Value) × Value) → as_instance o ≡ Some i → o ≡ Some (instance_of i)
instance_is (Some (instance c values mark)) i e =
    let same : (c, values, mark) ≡ i = cc e in ap (λ (i : ℕ × List (Option Value) × Value). Some (instance_of i)) same
instance_is o i e = absurd (cc e)

-- the stream that is the standard output, or the other one
abbrev pub stream_of : Bool → Object
stream_of false = input_stream
stream_of true = output_stream

pub stream_is : (o : Option Object) (b : Bool) → as_stream o ≡ Some b → o ≡ Some (stream_of b)
stream_is (Some input_stream) b e = let same : false ≡ b = cc e in ap (λ b. Some (stream_of b)) same
stream_is (Some output_stream) b e = let same : true ≡ b = cc e in ap (λ b. Some (stream_of b)) same
stream_is o b e = absurd (cc e)
