-- What the code's answers stand for.
use Rattle.std.specs.Prelude.{ℕ}
use Rattle.std.specs.Prelude.{Result, Ok, Err}
use Rattle.encoder.specs.declared.error.EncodeError.{EncodeError}
use Rattle.encoder.specs.declared.error.EncodeError.TheVariants.{BadRegister, BadField}

-- a refusal's number: "22 register above 31", "23" of a field
abbrev pub refusal_number : EncodeError → ℕ
refusal_number BadRegister = 22
refusal_number BadField = 23

-- "both from the encoder alone, line 0": the encoder sees no lines
abbrev pub numbered : {A : Type 0} → Result A EncodeError → Result A ℕ
numbered (Ok a) = Ok a
numbered (Err e) = Err (refusal_number e)
