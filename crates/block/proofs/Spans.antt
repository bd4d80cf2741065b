-- The names of a block that has the form: where they lie, what the test of one record says, and a store that is ASCII alone.
-- Assumes nothing.
use Prim.Native.Nat.{ℕ, ◌+◌, ◌≤◌, ◌<◌}
use mathlib.Core.Path.{◌≡◌, refl}
use mathlib.Core.Bool.{Bool, true}
use mathlib.Core.List.{List}
use native.Mathlib.Omega.{arith}
use lib.Dec.{eqb}
use Rattle.rules.specs.Block.{records, block, node_at, name_in, node_name, is_name_utf8, names_utf8, block_ok}
use Rattle.rules.specs.Format.{block_form_ok, block_utf8}
use Rattle.rules.specs.declared.table_record.Node.{Node}
use Rattle.rules.proofs.Tests.{and_both, all_true, either}
use Rattle.block_laws.proofs.Form.{formed}
use Rattle.utf8.specs.Ascii.{short_ascii}
use Rattle.utf8.proofs.Stores.{store_utf8}

module _ (s : List ℕ) where
  -- a name lies in the store
  pub node_name_inside : (store : ℕ) → block_ok s store ≡ true → (i : ℕ) → i < records s → (n : Node) → n ≡ node_at s i → n.named ≡ 1 → n.start + n.len ≤ store
  node_name_inside store e i h n is one =
      let f = ((formed s store).0 e).names i h in
      rw is (f.with_one (omega (arith, rw is at one))).1

  pub name_at : (names : List ℕ) (i : ℕ) (n : Node) → n ≡ node_at s i → (b : Bool) → b ≡ is_name_utf8 (name_in names n) → b ≡ is_name_utf8 (node_name s names i)
  name_at names i n is b e = rw (← is) e

-- of a store that is ASCII alone every name is well formed
pub ascii_name : (names : List ℕ) (most : ℕ) → short_ascii names most ≡ true → (n : Node) → is_name_utf8 (name_in names n) ≡ true
unfolding name_in is_name_utf8
ascii_name names most e n = either (λ m. is_name_utf8 m ≡ true) (eqb n.named 1) (λ h. store_utf8 names most e n.start n.len) (λ h. refl)

pub ascii_names : (table names : List ℕ) (most : ℕ) → short_ascii names most ≡ true → (first n : ℕ) → block_utf8 table names first n ≡ true
unfolding block_utf8 names_utf8
ascii_names table names most e first n = all_true _ _ (λ i h. ascii_name names most e (node_at (block table first n) i))

-- the block has the form
pub form_of : (table : List ℕ) (store first n : ℕ) → block_form_ok table store first n ≡ true → block_ok (block table first n) store ≡ true
unfolding block_form_ok
form_of table store first n e = (and_both _ _ e).1
