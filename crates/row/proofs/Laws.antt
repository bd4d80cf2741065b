-- A row of a checked format, step by step.
-- Assumes nothing.
use Rattle.rules.specs.declared.answer.Extent.{Extent}
use Rattle.std.proofs.Common.{Result, Option, Ok, Err, Some}
use Prim.Native.Nat.{ℕ, ◌+◌, ◌-◌, ◌≤◌}
use mathlib.Core.Path.{◌≡◌, refl, sym, ◌∙◌, ap}
use mathlib.Core.Bool.{Bool, true, false}
use mathlib.Core.List.{List, []}
use native.Mathlib.Omega.{arith}
use borrow.Author.Tests.{le-leb, leb-true}
use lib.Dec.{leb}
use lib.ListN.{length}
use Rattle.rules.specs.Choice.{pick}
use Rattle.rules.specs.Bytes.{le_at, Bytes}
use Rattle.rules.specs.Schema.{Schema, TableRoot}
use Rattle.rules.specs.Block.{node_at, block, Denotes, denotes}
use Rattle.rules.specs.Format.{Format, table_schema}
use Rattle.rules.specs.Value.{Value}
use Rattle.rules.specs.Walk as rule
use Rattle.rules.specs.Walk.{Limits, Answer, Got, number_of, walk, after, ◌>>=◌}
use Rattle.rules.specs.Reading.{limits, start, root_from, row_at, extent, skipped}
use Rattle.rules.specs.declared.settings.Settings.{Settings}
use Rattle.rules.specs.declared.refusal.Refusal.{Refusal}
use Rattle.rules.specs.Refusals.{Truncated, MissingTableSchema, UnknownRegistryReference}
use Rattle.rules.specs.declared.table_record.Located.{Located}
use Rattle.rules.specs.declared.table_record.Located.TheVariants.{Block, NoTable, NoEntry}
use Rattle.block_laws.proofs.Tables.{table_schema_lem}
use Rattle.row_laws.proofs.TableRows.{located}
use Rattle.row_laws.proofs.Sound.{sound}
use Rattle.schema.specs.Slices.{slices, EntriesNamed, ReferencesNamed}
use Rattle.schema.proofs.Accepted.{accepted_forms}
use Rattle.leaves.specs.Fields.{read_number_at}
use Rattle.leaves.specs.declared.leaf.SkipPos.{SkipPos}
use Rattle.read.specs.Skim.{skim_pos, skimmed}
use Rattle.read.proofs.Nodes.{formed_sound}
use Rattle.row.specs.declared.steps.RowBlock.{RowBlock}
use Rattle.row.specs.Steps.{a_row, ThroughDoor, Walkable, row_block_in, row_block_by, row_block_at, row_in}

-- the table tag, read or cut
module _ (inp : List ℕ) (at : ℕ) (x : Result (ℕ × ℕ) Refusal) (is : x ≡ read_number_at inp 2 17 at) where
  pub table_read_lem : (t next : ℕ) → x ≡ Ok (t, next) → (2 ≤ length inp - at) × (t ≡ le_at inp at 2)
  unfolding read_number_at pick
  table_read_lem t next e = by (leb 2 (length inp - at)) refl (sym is ∙ e)
    where
      by : (b : Bool) → leb 2 (length inp - at) ≡ b → pick {A = Result (ℕ × ℕ) Refusal} b (Ok (le_at inp at 2, at + 2)) (Err (Truncated 17 at)) ≡ Ok (t, next) → (2 ≤ length inp - at) × (t ≡ le_at inp at 2)
      by true l y = (leb-true 2 (length inp - at) l, sym (ap number y))
        where
          number : Result (ℕ × ℕ) Refusal → ℕ
          number (Ok p) = p.0
          number (Err r) = 0
      by false l y = absurd (omega (arith, differ y))
        where
          differ : ◌≡◌ {A = Result (ℕ × ℕ) Refusal} (Err (Truncated 17 at)) (Ok (t, next)) → ◌≡◌ {A = ℕ} 0 1
          differ y = cc

  pub table_cut : (f : Format) (lim : Limits) (r : Refusal) → x ≡ Err r → Err r ≡ skipped at (row_at f inp lim at)
  unfolding read_number_at row_at number_of start pick ◌>>=◌ skipped
  table_cut f lim r e = by (leb 2 (length inp - at)) refl (sym is ∙ e)
    where
      by : (b : Bool) → leb 2 (length inp - at) ≡ b → pick {A = Result (ℕ × ℕ) Refusal} b (Ok (le_at inp at 2, at + 2)) (Err (Truncated 17 at)) ≡ Err r → Err r ≡ skipped at (row_at f inp lim at)
      by true l y = absurd (omega (arith, differ y))
        where
          differ : ◌≡◌ {A = Result (ℕ × ℕ) Refusal} (Ok (le_at inp at 2, at + 2)) (Err r) → ◌≡◌ {A = ℕ} 0 1
          differ y = cc
      by false l y = let z : r ≡ Truncated 17 at = cc in rw (l, z)

-- where a table's schema stands does not depend on the record table
pub schema_any : (table names references registry : List ℕ) (t : ℕ) → table_schema (slices [] names references registry) t ≡ table_schema (slices table names references registry) t
unfolding table_schema
schema_any table names references registry t = refl

-- the root of a table's schema is a tuple
pub root_code : (s store : List ℕ) {t : Schema} → Denotes s store 0 t → TableRoot t → (node_at s 0).code ≡ 19
unfolding TableRoot
root_code s store (denotes l k m a) r = k ∙ r.0

module _ (f : Format) (inp : List ℕ) (lim : Limits) (at t : ℕ) (l : Located) (h : 2 ≤ length inp - at) (is : t ≡ le_at inp at 2) (found : l ≡ table_schema f t) where
  tagged : row_at f inp lim at ≡ root_from f inp lim at t l (start lim (at + 2))
  unfolding row_at number_of start pick ◌>>=◌
  tagged = rw (le-leb 2 (length inp - at) h, ← is, found)

  -- the row is the walk along the block
  row_found : (first n : ℕ) → l ≡ Block first n → row_at f inp lim at ≡ (walk (block f.table first n) inp lim 64 0 (start lim (at + 2)) >>= λ z. Got (t, z.0) z.1)
  unfolding root_from
  row_found first n e = tagged ∙ rw e

  row_block : (first n : ℕ) → l ≡ Block first n → row_in f.table inp lim at t first n ≡ skipped at (row_at f inp lim at)
  unfolding row_in
  row_block first n e = rw (row_found first n e)

  pub row_missing : l ≡ NoTable → Err (MissingTableSchema t at) ≡ skipped at (row_at f inp lim at)
  unfolding root_from skipped
  row_missing e = sym (ap (skipped at) tagged ∙ rw e)

  pub row_unknown : l ≡ NoEntry → Err (UnknownRegistryReference t) ≡ skipped at (row_at f inp lim at)
  unfolding root_from skipped
  row_unknown e = sym (ap (skipped at) tagged ∙ rw e)

  -- the block that is found can be walked along
  walkable : (s : Settings) → ThroughDoor f inp s → (first n : ℕ) → l ≡ Block first n → Walkable f.table inp at first n s
  walkable s ok first n e =
      let w : table_schema f t ≡ Block first n = sym found ∙ e in
      let b = table_schema_lem f ok.accepted t (located f t first n w) in
      let v = sym b.stands ∙ w in
      let x : b.first ≡ first = cc in
      let y : b.count ≡ n = cc in
      let g = b.good in
      let k = rw (x, y) at g.formed in
      let d = rw (x, y) at b.denotes in
      record {
        within = rw (x, y) at g.inside;
        rooted = record {
          sound = formed_sound (block f.table first n) (length f.names) k;
          root = omega (arith, k.order.size);
          compound = omega (arith, root_code (block f.table first n) f.names d b.root);
          accepted = ok.settings;
          short = ok.short;
          within = omega arith;
        };
      }

-- ---- a row or a refusal, among the answers of reading
pub row_told : (x : Result Extent Refusal) (e : Extent) → x ≡ Ok e → a_row x ≡ Ok (Some e)
unfolding a_row
row_told x e h = ap a_row h

pub refused_told : (x : Result Extent Refusal) (r : Refusal) → x ≡ Err r → (e : Extent) → a_row x ≡ Ok (Some e) → ⊥
unfolding a_row
refused_told (Ok y) r h e k = let z : ◌≡◌ {A = ℕ} 0 1 = cc in omega arith
refused_told (Err y) r h e k = let z : ◌≡◌ {A = ℕ} 0 1 = cc in omega arith

pub other_told : (x : Result Extent Refusal) → ((e : Extent) → x ≡ Ok e → ⊥) → (e : Extent) → a_row x ≡ Ok (Some e) → ⊥
unfolding a_row
other_told (Ok y) n e k = n y refl
other_told (Err y) n e k = let z : ◌≡◌ {A = ℕ} 0 1 = cc in omega arith

-- ---- the block of a row's table

-- behind the door it can be asked for
pub block_asked : (f : Format) (inp : List ℕ) (s : Settings) (at : ℕ) → ThroughDoor f inp s × (at ≤ length inp) → EntriesNamed f.names f.registry × ReferencesNamed f.names f.references × (at ≤ length inp)
block_asked f inp s at k =
    let a = accepted_forms f.table f.names f.references f.registry k.0.accepted in
    (a.entry_names, a.reference_names, k.1)

module _ (f : Format) (inp : List ℕ) (at : ℕ) (x : Result RowBlock Refusal) (is : x ≡ row_block_at f inp at) where
  -- what a block is that is found
  abbrev Found : RowBlock → Type 0
  Found b = (2 ≤ length inp - at) × ((b.tag ≡ le_at inp at 2) × (Block b.first b.count ≡ table_schema f b.tag))

  -- a block that is found: the tag is whole, and the block its table's
  pub block_found : (b : RowBlock) → x ≡ Ok b → (2 ≤ length inp - at) × ((b.tag ≡ le_at inp at 2) × (Block b.first b.count ≡ table_schema f b.tag))
  unfolding row_block_by row_block_in
  block_found b e = by (read_number_at inp 2 17 at) refl (sym is ∙ e)
    where
      found : (t : ℕ) (l : Located) → table_schema f t ≡ l → (2 ≤ length inp - at) × (t ≡ le_at inp at 2) → row_block_in at t l ≡ Ok b → Found b
      found t (Block first n) w k y =
          let z : ◌≡◌ {A = RowBlock} (record { tag = t; first = first; count = n }) b = cc in
          rw (← z) (k.0, (k.1, sym w))
      found t NoTable w k y = absurd (let z : ◌≡◌ {A = ℕ} 0 1 = cc in omega arith)
      found t NoEntry w k y = absurd (let z : ◌≡◌ {A = ℕ} 0 1 = cc in omega arith)

      by : (y : Result (ℕ × ℕ) Refusal) → read_number_at inp 2 17 at ≡ y → row_block_by f at y ≡ Ok b → Found b
      by (Ok (t, next)) w y = found t _ refl (table_read_lem inp at (Ok (t, next)) (sym w) t next refl) y
      by (Err r) w y = absurd (let z : ◌≡◌ {A = ℕ} 0 1 = cc in omega arith)

  -- and where there is none, the row is refused so
  pub block_refused : (lim : Limits) (r : Refusal) → x ≡ Err r → Err r ≡ skipped at (row_at f inp lim at)
  unfolding row_block_by row_block_in
  block_refused lim r e = by (read_number_at inp 2 17 at) refl (sym is ∙ e)
    where
      none : (t : ℕ) (l : Located) → table_schema f t ≡ l → (2 ≤ length inp - at) × (t ≡ le_at inp at 2) → row_block_in at t l ≡ Err r →
          Err r ≡ skipped at (row_at f inp lim at)
      none t (Block first n) w k y = absurd (let z : ◌≡◌ {A = ℕ} 0 1 = cc in omega arith)
      none t NoTable w k y = let z : r ≡ MissingTableSchema t at = cc in rw z (row_missing f inp lim at t NoTable k.0 k.1 (sym w) refl)
      none t NoEntry w k y = let z : r ≡ UnknownRegistryReference t = cc in rw z (row_unknown f inp lim at t NoEntry k.0 k.1 (sym w) refl)

      by : (y : Result (ℕ × ℕ) Refusal) → read_number_at inp 2 17 at ≡ y → row_block_by f at y ≡ Err r → Err r ≡ skipped at (row_at f inp lim at)
      by (Ok (t, next)) w y = none t _ refl (table_read_lem inp at (Ok (t, next)) (sym w) t next refl) y
      by (Err s) w y = let z : r ≡ s = cc in rw z (table_cut inp at (Err s) (sym w) f lim s refl)

-- and what is known of the row whose block was found: v is the format as the code reads it
module _ (f : Format) (inp : List ℕ) (at : ℕ) (x : Result RowBlock Refusal) (is : x ≡ row_block_at f inp at) (b : RowBlock) (e : x ≡ Ok b) (v : Format) (own : v ≡ f) where
  pub found_walkable : (s : Settings) → ThroughDoor f inp s → Walkable v.table inp at b.first b.count s
  found_walkable s ok =
      let p = block_found f inp at x is b e in
      rw own (walkable f inp (limits s) at b.tag _ p.0 p.1.0 p.1.1 s ok b.first b.count refl)

  pub found_row : (lim : Limits) → row_at f inp lim at ≡ (walk (block v.table b.first b.count) inp lim 64 0 (start lim (at + 2)) >>= λ z. Got (b.tag, z.0) z.1)
  found_row lim =
      let p = block_found f inp at x is b e in
      rw own (row_found f inp lim at b.tag _ p.0 p.1.0 p.1.1 b.first b.count refl)

  pub found_told : (lim : Limits) (read : Result (Option Extent) Refusal) → read ≡ row_in v.table inp lim at b.tag b.first b.count → read ≡ skipped at (row_at f inp lim at)
  found_told lim read h =
      let p = block_found f inp at x is b e in
      h ∙ rw own (row_block f inp lim at b.tag _ p.0 p.1.0 p.1.1 b.first b.count refl)

-- ---- the root's value
module _ (table inp : List ℕ) (lim : Limits) (at t first n : ℕ) (s : Result SkipPos Refusal) (is : s ≡ skimmed lim (walk (block table first n) inp lim 64 0 (start lim (at + 2)))) where
  pub value_refused : (r : Refusal) → s ≡ Err r → Err r ≡ row_in table inp lim at t first n
  unfolding row_in skimmed skipped ◌>>=◌
  value_refused r e = by (walk (block table first n) inp lim 64 0 (start lim (at + 2))) (sym is ∙ e)
    where
      by : (a : Answer Value) → skimmed lim a ≡ Err r → Err r ≡ skipped at (a >>= λ z. Got (t, z.0) z.1)
      by (Got v q) x = absurd (omega (arith, differ x))
        where
          differ : ◌≡◌ {A = Result SkipPos Refusal} (Ok (skim_pos lim q)) (Err r) → ◌≡◌ {A = ℕ} 0 1
          differ x = cc
      by (rule.Refused y) x = let z : r ≡ y = cc in rw z

  pub value_row : (p : SkipPos) → s ≡ Ok p → Ok (Some (record { table = t; bytes = p.at - at; records = p.records; payload = p.payload })) ≡ row_in table inp lim at t first n
  unfolding row_in skimmed skipped ◌>>=◌ extent skim_pos
  value_row p e = by (walk (block table first n) inp lim 64 0 (start lim (at + 2))) (sym is ∙ e)
    where
      by : (a : Answer Value) → skimmed lim a ≡ Ok p → Ok (Some (record { table = t; bytes = p.at - at; records = p.records; payload = p.payload })) ≡ skipped at (a >>= λ z. Got (t, z.0) z.1)
      by (Got v q) x = let z : p ≡ skim_pos lim q = cc in rw z
      by (rule.Refused y) x = absurd (omega (arith, differ x))
        where
          differ : ◌≡◌ {A = Result SkipPos Refusal} (Err y) (Ok p) → ◌≡◌ {A = ℕ} 0 1
          differ x = cc

  -- it ends past the table tag, in the input
  pub value_ends : Bytes inp → at + 2 ≤ length inp → (p : SkipPos) → s ≡ Ok p → at + 2 ≤ p.at
  unfolding skimmed skim_pos start after
  value_ends bs h p e = by (walk (block table first n) inp lim 64 0 (start lim (at + 2))) refl (sym is ∙ e)
    where
      by : (a : Answer Value) → walk (block table first n) inp lim 64 0 (start lim (at + 2)) ≡ a → skimmed lim a ≡ Ok p → at + 2 ≤ p.at
      by (Got v q) w x =
          let z : p ≡ skim_pos lim q = cc in
          let d = sound inp lim bs (block table first n) [] 64 0 (start lim (at + 2)) q v h w in
          let y : q.at ≡ (at + 2) + length d.bytes = ap (λ (g : rule.Pos). g.at) d.ends in
          rw z (omega arith)
      by (rule.Refused y) w x = absurd (omega (arith, differ x))
        where
          differ : ◌≡◌ {A = Result SkipPos Refusal} (Err y) (Ok p) → ◌≡◌ {A = ℕ} 0 1
          differ x = cc
