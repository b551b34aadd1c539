pub mod ModeFuses
pub mod Pal16L8Layout
pub mod PinLists
