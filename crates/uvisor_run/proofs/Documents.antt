-- What reading a document gives.
use Rattle.std.proofs.Common.{◌≡◌, Bool, true, false, if◌then◌else◌, List, ℕ, Option, Some, None, Ok, Err, refl}
use Rattle.std.specs.Str.{IsUtf8, is_utf8}
use Rattle.std.proofs.lemmas.Str.{IsUtf8-from_is_utf8, is_utf8-from_IsUtf8}
use Rattle.toml.specs.Data.{Members}
use Rattle.toml.specs.Parse.{parse_document}
use Rattle.flat_model.specs.First.{unless_refused}
use Rattle.flat_model.specs.declared.refusals.Refused.{Refused}
use Rattle.flat_model.specs.declared.refusals.Refused.TheVariants as refused
use Rattle.uvisor_run.specs.Accept.{document_of, or_not_toml}

-- bytes that spell a document
pub document_read : (bytes : List ℕ) (doc : Members) → IsUtf8 bytes → parse_document bytes ≡ Some doc → or_not_toml (document_of bytes) ≡ Ok doc
document_read bytes doc utf8 parsed = rw (is_utf8-from_IsUtf8 bytes utf8, parsed) refl

-- bytes that spell none
pub document_unread : (bytes : List ℕ) → (IsUtf8 bytes → parse_document bytes ≡ None) → or_not_toml (document_of bytes) ≡ Err refused.NotToml
document_unread bytes none = by_utf8 (is_utf8 bytes) refl
  where
    by_utf8 : (b : Bool) → is_utf8 bytes ≡ b → or_not_toml (if b then parse_document bytes else None) ≡ Err refused.NotToml
    by_utf8 true is = rw (none (IsUtf8-from_is_utf8 bytes is)) refl
    by_utf8 false is = refl

-- no refusal, where there is a value
pub no_refusal : {V : Type 0} (o : Option Refused) (v w : V) → unless_refused o v ≡ Ok w → o ≡ None
no_refusal None v w same = refl
no_refusal (Some r) v w same = absurd (cc)

-- a refusal is the same before any value
pub same_refusal : {V W : Type 0} (o : Option Refused) (v : V) (w : W) (r : Refused) → unless_refused o v ≡ Err r → unless_refused o w ≡ Err r
same_refusal None v w r same = absurd (cc)
same_refusal (Some s) v w r same = cc
