-- Where the number is 0, nothing is refused; and a row is known by what is said of it.
-- Assumes nothing.
use Rattle.std.specs.Prelude.{⊤}
use Rattle.std.proofs.Common.{Result, Option, Ok, Err, Some, None}
use Prim.Native.Nat.{ℕ}
use mathlib.Core.Path.{◌≡◌, refl, ap}
use mathlib.Core.Logic.{◌↔◌}
use native.Mathlib.Omega.{arith}
use Rattle.rules.specs.Refusals.{line_of}
use Rattle.rules.specs.Answers.{Said, said, none_said, row_said, read_said, checked_said}
use Rattle.rules.specs.declared.refusal.Refusal.{Refusal}
use Rattle.rules.specs.declared.refusal.Why.{Why}
use Rattle.rules.specs.declared.refusal.Why.TheVariants as why
use Rattle.rules.specs.declared.answer.Extent.{Extent}

-- no refusal has the number 0
line_number : (w : Why) → (line_of w).number ≡ 0 → ⊥
unfolding line_of
line_number why.Setting e = omega arith
line_number why.BadSchemaTable e = omega arith
line_number why.TooDeep e = omega arith
line_number (why.UnexpectedChildren type count) e = omega arith
line_number (why.TooManyChildren type count maximum) e = omega arith
line_number why.EmptyTableSchemas e = omega arith
line_number (why.UnknownRegistryReference table) e = omega arith
line_number (why.TableSchemaRootMustBeTuple found) e = omega arith
line_number (why.TableSchemaMustBeTuple found) e = omega arith
line_number (why.TableSchemaChildMissingName index) e = omega arith
line_number (why.MissingTableSchema index) e = omega arith
line_number (why.Truncated context) e = omega arith
line_number (why.RowTooLarge limit) e = omega arith
line_number (why.BlobTooLarge type length limit) e = omega arith
line_number (why.ValueDoesNotMatchSchema type kind) e = omega arith
line_number (why.TupleLength expected actual) e = omega arith
line_number (why.InvalidVariantTag type tag children) e = omega arith
line_number why.BadValueTable e = omega arith
line_number (why.NoNodeRoom needed) e = omega arith
line_number (why.NoPayloadRoom needed) e = omega arith
line_number (why.NoOutputRoom needed) e = omega arith
line_number why.NoIndexRoom e = omega arith
line_number why.IndexMismatch e = omega arith
line_number why.NoSuchRow e = omega arith
line_number why.NameNotUtf8 e = omega arith

pub refusal_number_lem : (r : Refusal) → (said r).number ≡ 0 → ⊥
unfolding said
refusal_number_lem r e = line_number r.why e

-- a check says 0 just if it accepts
pub check_number : {P : Type 0} (c : Result ⊤ Refusal) → (c ≡ Ok tt) ↔ P → ((checked_said c).number ≡ 0) ↔ P
unfolding checked_said none_said
check_number c i = (λ h. i.0 (by c h), λ p. rw (i.1 p))
  where
    by : (c : Result ⊤ Refusal) → (checked_said c).number ≡ 0 → c ≡ Ok tt
    by (Ok tt) e = refl
    by (Err r) e = absurd (refusal_number_lem r e)

-- two rows that say the same are one
pub one_row : (x y : Extent) → row_said x ≡ row_said y → x ≡ y
unfolding row_said
one_row x y e =
    let h = ap (λ (z : Said). z.carries) e in
    let a : x.table ≡ y.table = cc in
    let b : x.bytes ≡ y.bytes = cc in
    let c : x.records ≡ y.records = cc in
    let d : x.payload ≡ y.payload = cc in
    let w : ◌≡◌ {A = Extent} (record { table = x.table; bytes = x.bytes; records = x.records; payload = x.payload }) y = rw (a, b, c, d) in
    w

-- reading that says a row answers it
pub read_row : (a : Result (Option Extent) Refusal) (e : Extent) → read_said a ≡ row_said e → a ≡ Ok (Some e)
unfolding read_said none_said row_said
read_row (Ok (Some x)) e h = ap (λ x. Ok (Some x)) (one_row x e h)
read_row (Ok None) e h = let g = ap (λ (z : Said). z.carries) h in let z : ◌≡◌ {A = ℕ} 0 1 = cc in absurd (omega arith)
read_row (Err r) e h = absurd (refusal_number_lem r (ap (λ (z : Said). z.number) h))
