pub mod MakerBoards
