-- A mapped result has the status and the reply of the result, and f of the session that it leaves. Assumes nothing.
use Rattle.std.specs.Prelude.{◌≡◌, refl}
use Rattle.book.specs.Session.{Result, done, refuse, status, reply, leaves, mapped}

module _ {S T : Type 0} (f : S → T) where
  pub mapped_status : (x : Result S) → status (mapped f x) ≡ status x
  mapped_status (done r s) = refl
  mapped_status (refuse k) = refl

  pub mapped_reply : (x : Result S) → reply (mapped f x) ≡ reply x
  mapped_reply (done r s) = refl
  mapped_reply (refuse k) = refl

  pub mapped_leaves : (s : S) (x : Result S) → leaves (f s) (mapped f x) ≡ f (leaves s x)
  mapped_leaves s (done r u) = refl
  mapped_leaves s (refuse k) = refl
