-- Addresses.
use denote.RawPtr.{Ptr, block_ptr}
use denote.Ref.{Bor}

-- the address at which the target of a reference begins
abbrev pub start : {A : Type 0} → Bor A → Ptr
start r = block_ptr r.ref_ptr.0 r.ref_ptr.1
