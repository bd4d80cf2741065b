-- What each answer says in document 01's numbers. A refusal says its number, its place and what it carries; where nothing is refused the
-- number is 0, and what is returned stands where a refusal's values stand.
-- Assumes nothing: these are definitions.
use Rattle.std.specs.Prelude.{ℕ, List, [], ◌∷◌, map, ℤ, pos, Result, Option, Ok, Err, Some, None, ⊤}
use Rattle.std.specs.Float.{binary64}
use Rattle.std.specs.Float.Ieee.{to_bits}
use Rattle.rules.specs.Refusals.{line_of, refusal_number}
use Rattle.rules.specs.ValueTable.{bit}
use Rattle.rules.specs.declared.refusal.Refusal.{Refusal}
use Rattle.rules.specs.declared.answer.Extent.{Extent}
use Rattle.rules.specs.declared.host_answer.Scalar.{Scalar}

-- number, place, and then what is carried or returned
pub record Said : Type 0 where
  pub number : ℕ
  pub place : ℕ
  pub carries : List ℕ

-- what a refusal says
unfoldable pub said : Refusal → Said
said r = record { number = refusal_number r; place = r.place; carries = (line_of r.why).carries }

-- nothing is refused, and nothing returned
unfoldable pub none_said : Said
none_said = record { number = 0; place = 0; carries = [] }

-- accepted rows return table, bytes, records and payload bytes
unfoldable pub row_said : Extent → Said
row_said e = record { number = 0; place = 0; carries = e.table ∷ e.bytes ∷ e.records ∷ e.payload ∷ [] }

-- reading: a row, the end of the stream, or a refusal
unfoldable pub read_said : Result (Option Extent) Refusal → Said
read_said (Ok (Some e)) = row_said e
read_said (Ok None) = none_said
read_said (Err r) = said r

-- a run stops at the end, or at the first refusal
unfoldable pub stop_said : Result ⊤ Refusal → Said
stop_said (Ok tt) = none_said
stop_said (Err r) = said r

-- encoding: a row, or a refusal
unfoldable pub written_said : Result Extent Refusal → Said
written_said (Ok e) = row_said e
written_said (Err r) = said r

-- a text: its bytes, or a refusal
unfoldable pub text_said : Result ℕ Refusal → Said
text_said (Ok n) = record { number = 0; place = 0; carries = n ∷ [] }
text_said (Err r) = said r

-- a check: accepted, or a refusal
unfoldable pub checked_said : Result ⊤ Refusal → Said
checked_said (Ok tt) = none_said
checked_said (Err r) = said r

-- ---- what a host is told of one record: its values are numbers of either sign

pub record HostSaid : Type 0 where
  pub number : ℕ
  pub place : ℕ
  pub values : List ℤ

unfoldable pub host_refused : Refusal → HostSaid
host_refused r = record { number = refusal_number r; place = r.place; values = map pos (line_of r.why).carries }

unfoldable pub host_said : List ℤ → HostSaid
host_said values = record { number = 0; place = 0; values = values }

-- a boolean is 0 or 1, a double its bits, a payload its start and length
unfoldable pub scalar_values : Scalar → List ℤ
scalar_values Scalar.Nothing = []
scalar_values (Scalar.Truth x) = pos (bit x) ∷ []
scalar_values (Scalar.Signed z) = z ∷ []
scalar_values (Scalar.Unsigned x) = pos x ∷ []
scalar_values (Scalar.Double x) = pos (to_bits binary64 x) ∷ []
scalar_values (Scalar.NotANumber bits) = pos bits ∷ []
scalar_values (Scalar.Payload start length) = pos start ∷ pos length ∷ []
scalar_values (Scalar.Children count) = pos count ∷ []

-- the value query
unfoldable pub queried_said : Result Scalar Refusal → HostSaid
queried_said (Ok x) = host_said (scalar_values x)
queried_said (Err r) = host_refused r
