-- What the program prints of what bytes read as, and of bytes.
use Rattle.std.specs.Prelude.{ℕ, ◌-◌, ◌^◌, false, List, [], ◌++◌, codes, decimal}
use Rattle.std.specs.List.{flat_map}
use Rattle.std.specs.Fmt.{digits, padded_integral, format_spec}
use Rattle.wire.specs.Frames.{read_of, read_told}

-- the number, place, kind and value
abbrev pub reading_text : List ℕ → List ℕ
reading_text s =
    let t = read_told (read_of s) in
    decimal t.number ++ codes " " ++ decimal t.place ++ codes " " ++ decimal t.kind ++ codes " " ++ decimal t.value

-- two hexadecimal digits for each, and a space before them
abbrev pub bytes_text : List ℕ → List ℕ
bytes_text s =
    flat_map (λ b. codes " " ++ padded_integral (format_spec 32 0 4 2 (2 ^ 64 - 1)) false [] (digits 16 false b)) s
