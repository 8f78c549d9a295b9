pub mod OddTariffs
